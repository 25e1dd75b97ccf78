-- A row filled step by step: steps in a row are one step. Assumes nothing.
use Prim.Native.Nat.{ℕ, ◌+◌, ◌≤◌}
use native.Mathlib.Nat.{add_assoc}
use native.Mathlib.Omega.{arith}
use mathlib.Core.Path.{◌≡◌, refl, sym, ap, ◌∙◌}
use mathlib.Core.List.{List, [], ◌++◌}
use lib.IntN.{ℤ}
use lib.ListN.{length, length-append}
use Rattle.meaning.specs.Row.{Pair, Cells}
use Rattle.read_fields.specs.RowProgress.{prefixed, RowFilled}
use Rattle.read_fields.specs.declared.filling.RowCursor.{RowCursor}
use Rattle.read_fields.proofs.Stores.{sets_append, same_sets}
use Rattle.read_fields.proofs.Pairs.{prefixed_none, prefixed_both}

-- no step
pub none : (rest : List ℕ) (whole : List Pair → Cells) (s : RowCursor) (l : List ℤ) → s.at ≤ length rest → s.place ≤ s.at + 3 → RowFilled rest 0 whole whole s s l l
none rest whole s l w p = record {
  values = [];
  meant = λ ps. sym (prefixed_none (whole ps));
  used = omega arith;
  stored = refl;
  few = omega arith;
  within = w;
  placed = p;
}

module _ {rest : List ℕ} {m n : ℕ} {whole middle after : List Pair → Cells} {s t v : RowCursor} {entry between exit : List ℤ} where
  -- one step, and another
  pub both : RowFilled rest m whole middle s t entry between → RowFilled rest n middle after t v between exit → RowFilled rest (m + n) whole after s v entry exit
  both a b = record {
    values = a.values ++ b.values;
    meant = λ ps. a.meant ps ∙ ap (prefixed a.values) (b.meant ps) ∙ prefixed_both a.values b.values (after ps);
    used = b.used ∙ rw (a.used, length-append a.values b.values) (add_assoc s.used (length a.values) (length b.values));
    stored = b.stored ∙ rw (a.stored, a.used) (sets_append a.values b.values entry s.used);
    few = omega (arith, length-append a.values b.values, a.few, b.few);
    within = b.within;
    placed = b.placed;
  }

module _ {rest : List ℕ} {m : ℕ} {whole after : List Pair → Cells} {s t : RowCursor} {entry exit : List ℤ} where
  -- a step with more cells allowed
  pub wider : (n : ℕ) → m ≤ n → RowFilled rest m whole after s t entry exit → RowFilled rest n whole after s t entry exit
  wider n h a = record { values = a.values; meant = a.meant; used = a.used; stored = a.stored; few = omega (arith, a.few); within = a.within; placed = a.placed }

  -- the same step, named otherwise
  pub renamed : (whole' after' : List Pair → Cells) → ((ps : List Pair) → whole' ps ≡ whole ps) → ((ps : List Pair) → after ps ≡ after' ps)
      → RowFilled rest m whole after s t entry exit → RowFilled rest m whole' after' s t entry exit
  renamed whole' after' e g a = record {
    values = a.values;
    meant = λ ps. e ps ∙ a.meant ps ∙ ap (prefixed a.values) (g ps);
    used = a.used;
    stored = a.stored;
    few = a.few;
    within = a.within;
    placed = a.placed;
  }

  -- the pairs in front of others
  pub before : (front : List Pair → List Pair) → RowFilled rest m whole after s t entry exit → RowFilled rest m (λ ps. whole (front ps)) (λ ps. after (front ps)) s t entry exit
  before front a = record {
    values = a.values;
    meant = λ ps. a.meant (front ps);
    used = a.used;
    stored = a.stored;
    few = a.few;
    within = a.within;
    placed = a.placed;
  }

  -- a refusal behind a step is the whole's
  pub refuses : (c : Cells) → ((ps : List Pair) → after ps ≡ c) → ((vs : List ℤ) → prefixed vs c ≡ c) → RowFilled rest m whole after s t entry exit → (ps : List Pair) → whole ps ≡ c
  refuses c e g a ps = a.meant ps ∙ ap (prefixed a.values) (e ps) ∙ g a.values

  pub same_length : RowFilled rest m whole after s t entry exit → length exit ≡ length entry
  same_length a = same_sets entry exit a.values s.used a.stored
