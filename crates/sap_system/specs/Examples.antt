-- Worked examples of system files and of the first rule that they break.
use Rattle.std.specs.Prelude.{ℕ, List, [], ◌∷◌, codes, Some, None}
use Rattle.sap_system.specs.Listing.{listing}
use Rattle.sap_system.specs.SystemFile.{FirstFault, IsSystemOfFile}
use Rattle.sap_system.specs.declared.fault.SysCode.TheVariants.{K1, K2, K3, K4}
use Rattle.sap_system.specs.declared.fault.SysFault.TheVariants.{Rule}
use Rattle.sap_system.specs.declared.file.Part.{Part}
use Rattle.sap_system.specs.declared.file.WireText.{WireText}

-- A part of a name and a file.
abbrev pub part : (name file : List ℕ) → Part
part name file = record { name = name; file = file }

-- A wire that lets all levels through.
abbrev pub wire : (from to : List ℕ) → WireText
wire from to = record { from = from; to = to; level = None }

-- A wire that lets through what is at or below a level.
abbrev pub wire_through : (from to level : List ℕ) → WireText
wire_through from to level = record { from = from; to = to; level = Some level }

-- Two parts and two wires, the second through a level.
abbrev pub TwoParts : Type 0
TwoParts = IsSystemOfFile (codes "parts = [['p', 'a.sap'], ['q', 'b.sap']]\nwires = [['p.x', 'q.b'], ['q.y', 'p.a', 'low']]")
    (listing (part (codes "p") (codes "a.sap") ∷ part (codes "q") (codes "b.sap") ∷ [])
    (wire (codes "p.x") (codes "q.b") ∷ wire_through (codes "q.y") (codes "p.a") (codes "low") ∷ []))

-- K1: the bytes are no document.
abbrev pub NoDocument : Type 0
NoDocument = FirstFault (codes "parts") (Rule K1 0)

-- K2: there are no wires, not even none; there is a third key; a wire has one text.
abbrev pub NoWires : Type 0
NoWires = FirstFault (codes "parts = []") (Rule K2 0)

-- A third key of the document is K2.
abbrev pub ThirdKey : Type 0
ThirdKey = FirstFault (codes "parts = []\nwires = []\nlevels = []") (Rule K2 0)

-- A wire of one text is K2.
abbrev pub OneText : Type 0
OneText = FirstFault (codes "parts = []\nwires = [['p.x']]") (Rule K2 0)

-- K3: there are no parts; there are nine.
abbrev pub NoParts : Type 0
NoParts = FirstFault (codes "parts = []\nwires = []") (Rule K3 0)

-- A ninth part is K3.
abbrev pub NineParts : Type 0
NineParts = FirstFault (codes "parts = [['p',''],['p',''],['p',''],['p',''],['p',''],['p',''],['p',''],['p',''],['p','']]\nwires = []") (Rule K3 9)

-- K4: a name is a keyword; has `_`; stands earlier.
abbrev pub KeywordName : Type 0
KeywordName = FirstFault (codes "parts = [['input', 'a']]\nwires = []") (Rule K4 1)

-- A part's name with an underscore is K4.
abbrev pub UnderscoreName : Type 0
UnderscoreName = FirstFault (codes "parts = [['p', 'a'], ['q_r', 'b']]\nwires = []") (Rule K4 2)

-- A part's name that stands twice is K4.
abbrev pub NameTwice : Type 0
NameTwice = FirstFault (codes "parts = [['p', 'a'], ['p', 'b'], ['', 'c']]\nwires = []") (Rule K4 2)
