-- Lines of fields put into a room. Assumes nothing.
use Prim.Native.Nat.{ℕ, ◌≤◌}
use native.Mathlib.Omega.{arith}
use mathlib.Core.Path.{◌≡◌, refl, sym, ap, ◌∙◌}
use mathlib.Core.List.{List, [], ◌∷◌, ◌++◌, append-nil}
use lib.ListN.{length, length-append}
use Rattle.meaning.specs.Writing.{spaced, line_bytes, lines_bytes}
use Rattle.meaning.specs.Width.{cut_line, cut_lines}
use Rattle.write_lines.specs.declared.Put.{Put}
use Rattle.write_lines.specs.Puts.{Puts}
use Rattle.write_lines.proofs.Puts.{renamed, then}
use Rattle.write_objects.proofs.Joined.{cut_lines_append}

-- the bytes of a line of one field, and of two
pub one_field : (f : List ℕ) → f ≡ line_bytes (f ∷ [])
unfolding spaced line_bytes
one_field f = sym (append-nil f)

pub two_fields : (f g : List ℕ) → f ++ (0x20 ∷ g) ≡ line_bytes (f ∷ g ∷ [])
unfolding spaced line_bytes
two_fields f g = rw append-nil refl

-- one line of fields, cut
pub one_line : (mark width : ℕ) (l : List (List ℕ)) → cut_line mark width (line_bytes l) ≡ cut_lines mark width (lines_bytes (l ∷ []))
unfolding cut_lines lines_bytes
one_line mark width l = sym (append-nil (cut_line mark width (line_bytes l)))

-- a line of a code, and of a code and a name
pub alone_line : (mark width : ℕ) (f : List ℕ) → cut_line mark width f ≡ cut_lines mark width (lines_bytes ((f ∷ []) ∷ []))
alone_line mark width f = ap (cut_line mark width) (one_field f) ∙ one_line mark width (f ∷ [])

pub named_line : (mark width : ℕ) (f g : List ℕ) → cut_line mark width (f ++ (0x20 ∷ g)) ≡ cut_lines mark width (lines_bytes ((f ∷ g ∷ []) ∷ []))
named_line mark width f g = ap (cut_line mark width) (two_fields f g) ∙ one_line mark width (f ∷ g ∷ [])

pub named_some : (f g : List ℕ) → 1 ≤ length (f ++ (0x20 ∷ g))
named_some f g = rw length-append (omega arith)

-- lines behind lines
pub lines_then : (mark width : ℕ) {p q r : Put} {e e' e'' : List ℕ} (xs ys : List (List (List ℕ))) → Puts (cut_lines mark width (lines_bytes xs)) p e e' q
    → Puts (cut_lines mark width (lines_bytes ys)) q e' e'' r → Puts (cut_lines mark width (lines_bytes (xs ++ ys))) p e e'' r
lines_then mark width {p} {q} {r} {e} {e'} {e''} xs ys f g =
    renamed _ _ p e e'' r (sym (cut_lines_append mark width xs ys)) (then (cut_lines mark width (lines_bytes xs)) (cut_lines mark width (lines_bytes ys)) p q r e e' e'' f g)

-- lines between two lines
module _ (mark width : ℕ) (l : List (List ℕ)) (ls : List (List (List ℕ))) (k : List (List ℕ)) where
  pub framed : {p q r s : Put} {e e' e'' e''' : List ℕ} → Puts (cut_lines mark width (lines_bytes (l ∷ []))) p e e' q → Puts (cut_lines mark width (lines_bytes ls)) q e' e'' r
      → Puts (cut_lines mark width (lines_bytes (k ∷ []))) r e'' e''' s → Puts (cut_lines mark width (lines_bytes (l ∷ (ls ++ (k ∷ []))))) p e e''' s
  framed f g h = lines_then mark width (l ∷ []) (ls ++ (k ∷ [])) f (lines_then mark width ls (k ∷ []) g h)

-- no line
pub no_lines : (mark width : ℕ) → cut_lines mark width (lines_bytes []) ≡ []
unfolding cut_lines lines_bytes
no_lines mark width = refl

pub put_none : (mark width : ℕ) (p q : Put) (e : List ℕ) → Puts [] p e e q → Puts (cut_lines mark width (lines_bytes [])) p e e q
put_none mark width p q e h = renamed [] _ p e e q (sym (no_lines mark width)) h
