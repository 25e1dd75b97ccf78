-- What the head of a line says: whether field 1 is a code, and that the other fields are those of the rest.
use Rattle.std.specs.Prelude.{ℕ, ◌+◌, ◌≤◌, ◌<◌, ◌≡◌, List, [], eqb, length, drop, get_or}
use Rattle.meaning.specs.Field.{fields_of, has_code}
use Rattle.read_frame.specs.Codes.{codes, place_or_0}
use Rattle.read_frame.specs.declared.codes.Head.{Head}

pub record HeadOf (l : List ℕ) (h : Head) : Type 0 where
  pub within : h.behind ≤ length l
  pub code : (i : ℕ) → i < 16 → (s : ℕ) → has_code (get_or codes i []) (fields_of s l) ≡ eqb (place_or_0 h.code) (i + 1)
  pub others : (s : ℕ) → drop 1 (fields_of s l) ≡ fields_of (s + h.behind) (drop h.behind l)
  pub some : 1 ≤ place_or_0 h.code → (s : ℕ) → 1 ≤ length (fields_of s l)
