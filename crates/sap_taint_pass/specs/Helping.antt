-- Names for helping wires: none is a name of the module or a tag's.
use Rattle.std.specs.Prelude.{◌≡◌, ℕ, ◌+◌, ◌^◌, ◌<◌, suc, zero, true, false, List, ◌∷◌, length, replicate, nat_lt, if◌then◌else◌}
use Rattle.sap_maps.specs.Maps.{Name}
use Rattle.sap_net.specs.Net.{Net}
use Rattle.sap_net.specs.Names.{is_name, is_among, helper}
use Rattle.sap_taint.specs.TagNames.{with_tags}
use Rattle.sap_taint_pass.specs.Tainted.{help_count, tainted_by}

-- What no helping wire can be named.
abbrev pub taken_names : Net → List Name
taken_names n = n.module_name ∷ with_tags n.names

-- An `n` and the number. Fewer than 2 ^ 64 are used, so that those beyond need only differ, also from all names.
unfoldable pub numbered : ℕ → Name
numbered k = if nat_lt k (2 ^ 64) then helper k else replicate k 0

-- The first number from k on whose name isn't taken, looked for at most so many numbers further.
abbrev pub free_from : (taken : List Name) (k tries : ℕ) → ℕ
free_from taken k zero = k
free_from taken k (suc tries) = if is_among (numbered k) taken then free_from taken (k + 1) tries else k

-- As many as names are taken are enough.
abbrev pub next_free : (taken : List Name) (k : ℕ) → ℕ
next_free taken k = free_from taken k (length taken)

-- The free numbers from 1 on.
abbrev pub free_number : (taken : List Name) (k : ℕ) → ℕ
free_number taken zero = next_free taken 1
free_number taken (suc k) = next_free taken (free_number taken k + 1)

-- The name of a further helping wire: the number is free.
abbrev pub helping_name : Net → (k : ℕ) → Name
helping_name n k = numbered (free_number (taken_names n) k)

-- Names of their own for helping wires, as many as are used.
pub record AreHelping (n : Net) (helping : ℕ → Name) : Type 0 where
  pub named : (k : ℕ) → k < help_count n → is_name (helping k) ≡ true
  pub apart : (j k : ℕ) → helping j ≡ helping k → j ≡ k
  pub free : (k : ℕ) → is_among (helping k) (taken_names n) ≡ false

-- There are fewer names, tags and helping wires than a machine counts.
abbrev pub IsSmall : Net → Type 0
IsSmall n = length (taken_names n) + help_count n < 2 ^ 64

-- The netlist with a tag of w bits for each name.
abbrev pub tainted : (w : ℕ) → Net → Net
tainted w n = tainted_by (helping_name n) w n
