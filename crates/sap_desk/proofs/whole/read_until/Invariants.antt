use Rattle.sap_lemmas.proofs.Common.{◌≡◌, ◌+◌, ◌-◌, ◌<◌, ◌≤◌, ◌^◌, ◌++◌, length, drop, IfSome}
use Rattle.sap_desk.specs.Desk.{at_number, rest_of}
use Rattle.sap_desk.proofs.ReadFiles.{ReadSo}
use Rattle.sap_desk.proofs.whole.read_until.Given as goal

abbrev pub invariant-loop-piece : goal.invariant-loop-piece
invariant-loop-piece g l = record {
  so : ReadSo l.limit l.channel (length l.bytes.items) (g.D.Desk.told l.fn.desk) (g.D.Desk.told l.desk);
  bytes : IfSome (g.D.Desk.told l.fn.desk) (λ t. l.bytes.items ++ drop (length l.bytes.items) (rest_of t l.channel) ≡ rest_of t l.channel);
  most : length l.bytes.items ≤ l.limit + 4096;
  short : length l.bytes.items < 2 ^ 32;
  given : g.D.Desk.given l.desk l.channel ≡ g.D.Desk.given l.fn.desk l.channel + length l.bytes.items;
  gave : g.D.Desk.given l.desk ≡ at_number l.channel (g.D.Desk.given l.fn.desk l.channel + length l.bytes.items) (g.D.Desk.given l.fn.desk);
  faults : g.D.Desk.faults l.desk ≡ g.D.Desk.faults l.fn.desk;
  lost : g.D.Desk.lost l.desk ≡ g.D.Desk.lost l.fn.desk;
  sure : g.D.Desk.sure l.fn.desk → g.D.Desk.sure l.desk;
}

abbrev pub decreases-loop-piece : goal.decreases-loop-piece
decreases-loop-piece g l = 2 ^ 32 - g.D.Desk.given l.desk l.channel
