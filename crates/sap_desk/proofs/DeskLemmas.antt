-- On what stands in Desk: what several crates cite.
use Rattle.std.proofs.Common.{refl, ℕ, ◌≡◌, Option, Some, None}
use Rattle.sap_desk.specs.Desk.{Use, closed, moved_use, name_if_reading, read_on_use, reads, stream, writes}

pub name_moved : (n : ℕ) (u : Use) → name_if_reading (moved_use n u) ≡ name_if_reading u
name_moved n (reads name q p) = refl
name_moved n (writes name) = refl
name_moved n closed = refl
name_moved n stream = refl

pub name_read_on : (asked : Option ℕ) (n : ℕ) (u : Use) → name_if_reading (read_on_use asked n u) ≡ name_if_reading u
name_read_on None n (reads name q p) = refl
name_read_on (Some k) n (reads name q p) = refl
name_read_on None n (writes name) = refl
name_read_on (Some k) n (writes name) = refl
name_read_on None n closed = refl
name_read_on (Some k) n closed = refl
name_read_on None n stream = refl
name_read_on (Some k) n stream = refl
