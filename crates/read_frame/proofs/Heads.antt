-- Heads of lines. Assumes nothing.
use Prim.Native.Nat.{ℕ, ◌+◌}
use native.Mathlib.Omega.{arith}
use mathlib.Core.Path.{◌≡◌, sym}
use mathlib.Core.List.{List, []}
use lib.ListN.{length, take, drop}
use lib.Seq.{drop-length}
use borrow.Author.Tests.{ne_eqb}
use Rattle.meaning.specs.Field.{fields_of, has_code}
use Rattle.base.specs.Fields.{FirstField}
use Rattle.read_frame.specs.Codes.{code_number, place_or_0}
use Rattle.read_frame.specs.Heads.{HeadOf}
use Rattle.read_frame.specs.declared.codes.Head.{Head}
use Rattle.read_frame.proofs.Words.{code_is}

-- a line that has a field
pub head_field : (l : List ℕ) (start len : ℕ) → FirstField l start len → (h : Head) → place_or_0 h.code ≡ code_number (take len (drop start l)) → h.behind ≡ start + len → HeadOf l h
unfolding has_code
head_field l start len f h e g = record {
  within = omega (arith, f.within);
  code = λ i b s. rw (f.first s, e) (code_is i b (take len (drop start l)));
  others = λ s. let k : s + start + len ≡ s + (start + len) = omega arith in rw (f.first s, g, k);
  some = λ p s. rw (f.first s) (omega arith);
}

-- a line that has none
pub head_none : (l : List ℕ) → ((s : ℕ) → fields_of s l ≡ []) → (h : Head) → place_or_0 h.code ≡ 0 → h.behind ≡ length l → HeadOf l h
unfolding has_code fields_of
head_none l f h e g = record {
  within = omega arith;
  code = λ i b s. rw (f s, e) (sym (ne_eqb 0 (i + 1) (λ q. absurd (omega arith))));
  others = λ s. rw (f s, g, drop-length l);
  some = λ p s. absurd (omega arith);
}
