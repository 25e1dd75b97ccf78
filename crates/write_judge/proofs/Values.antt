-- The pair of an attribute with one field of its own: what each test says of it. Assumes nothing.
use borrow.Author.Tests.{lt-ltb, le-ltb, le-leb, lt-leb}
use Prim.Native.Nat.{ℕ, ◌-◌, ◌/◌, ◌%◌, ◌^◌, ◌≤◌, ◌<◌}
use mathlib.Core.Path.{◌≡◌, refl, sym, ◌∙◌}
use mathlib.Core.Bool.{Bool, true, false, ◌&&◌}
use mathlib.Core.List.{List}
use lib.Dec.{ltb}
use lib.IntN.{ℤ, pos, nat_abs}
use lib.Signed.{lt_z}
use lib.ListN.{length, get_or}
use Rattle.meaning.specs.Bytes.{all_of}
use Rattle.meaning.specs.Model.{Text}
use Rattle.meaning.specs.Value.{is_day}
use Rattle.meaning.specs.Reading.{Content}
use Rattle.meaning.specs.Judge.{cell_is, judge_stretch, judge_date, judge_reference, judge_value}
use Rattle.model_records.specs.declared.attributes.Component.{Component}
use Rattle.model_records.specs.declared.attributes.Kind.{Kind}
use Rattle.model_records.specs.declared.attributes.Kind.TheVariants as kind
use Rattle.model_records.specs.Attributes.{of_kind}
use Rattle.write_judge.specs.Meant.{judge_second}
use Rattle.write_judge.proofs.Signs.{alone, size_below}

none : (x : Bool) → (x && false) ≡ false
none true = refl
none false = refl

-- ## Dates

module _ (b : ℤ) where
  pub date_negative : lt_z b (pos 0) ≡ true → false ≡ judge_date b
  unfolding judge_date all_of
  date_negative h = rw h

  pub date_large : lt_z b (pos 0) ≡ false → lt_z b (pos (10 ^ 8)) ≡ false → false ≡ judge_date b
  unfolding judge_date all_of
  date_large h g = rw (h, g)

  pub date_day : lt_z b (pos 0) ≡ false → lt_z b (pos (10 ^ 8)) ≡ true → (n : ℕ) → n ≡ nat_abs b → is_day (n / 10000) (n / 100 % 100) (n % 100) ≡ judge_date b
  unfolding judge_date all_of
  date_day h g n e = rw (h, g, e) (alone (is_day (nat_abs b / 10000) (nat_abs b / 100 % 100) (nat_abs b % 100)))

-- ## References

module _ (c : Content) (target : ℕ) (b : ℤ) where
  pub reference_negative : lt_z b (pos 0) ≡ true → false ≡ judge_reference c target b
  unfolding judge_reference all_of
  reference_negative h = rw h

  module _ (h : lt_z b (pos 0) ≡ false) (n : ℕ) (e : n ≡ nat_abs b) where
    numbered : lt_z b (pos (length c.rows)) ≡ ltb n (length c.rows)
    numbered = sym (size_below b (length c.rows) h) ∙ rw e

    pub reference_none : length c.rows ≤ n → false ≡ judge_reference c target b
    unfolding judge_reference all_of
    reference_none l = rw (h, numbered, le-ltb n (length c.rows) l)

    module _ (l : n < length c.rows) (row : ℕ) (r : row ≡ get_or c.rows n 0) where
      row_is : get_or c.rows (nat_abs b) 0 ≡ row
      row_is = rw (sym e) (sym r)

      pub reference_outside : length c.cells ≤ row → false ≡ judge_reference c target b
      unfolding judge_reference all_of
      reference_outside g = rw (h, numbered, lt-ltb n (length c.rows) l, row_is, le-ltb row (length c.cells) g)

      pub reference_is : row < length c.cells → cell_is (get_or c.cells row (pos 0)) target ≡ judge_reference c target b
      unfolding judge_reference all_of
      reference_is g = rw (h, numbered, lt-ltb n (length c.rows) l, row_is, lt-ltb row (length c.cells) g) (alone (cell_is (get_or c.cells row (pos 0)) target))

-- ## Texts

module _ (u : ℕ) (text : List ℕ) (c : Content) (longest : ℕ) (a b : ℤ) where
  pub text_none : lt_z a (pos 2) ≡ true → false ≡ judge_value u text c (Text longest) a b
  unfolding judge_value all_of
  text_none h = rw h

  pub text_long : lt_z a (pos 2) ≡ false → longest < nat_abs a - 1 → false ≡ judge_value u text c (Text longest) a b
  unfolding judge_value all_of
  text_long h l = rw (h, lt-leb (nat_abs a - 1) longest l)

  pub text_is_lem : lt_z a (pos 2) ≡ false → (n : ℕ) → n ≡ nat_abs a - 1 → n ≤ longest → judge_stretch u text b n ≡ judge_value u text c (Text longest) a b
  unfolding judge_value all_of
  text_is_lem h n e l = rw (h, sym e, le-leb n longest l) (alone (judge_stretch u text b n))

-- ## By the type

module _ (c : Content) (b : ℤ) where
  pub second_none : (k : Kind) → ((target : ℕ) → k ≡ kind.Reference target → ⊥) → ((x : Component) → k ≡ kind.Number x → ⊥) → (k ≡ kind.Date → ⊥) → ((leaves : ℕ) → k ≡ kind.Enumeration leaves → ⊥)
      → false ≡ judge_second c (of_kind k) b
  unfolding judge_second
  second_none (kind.Reference target) r n d e = absurd (r target refl)
  second_none (kind.Coordinate components) r n d e = refl
  second_none (kind.Number x) r n d e = absurd (n x refl)
  second_none (kind.Text longest) r n d e = refl
  second_none kind.Date r n d e = absurd (d refl)
  second_none (kind.Enumeration leaves) r n d e = absurd (e leaves refl)
  second_none (kind.Line forms components) r n d e = refl

  -- every type but a text has 1 in its first cell
  pub value_second : (u : ℕ) (text : List ℕ) (a : ℤ) (k : Kind) → ((longest : ℕ) → k ≡ kind.Text longest → ⊥) → (cell_is a 1 && judge_second c (of_kind k) b) ≡ judge_value u text c (of_kind k) a b
  unfolding judge_second judge_value
  value_second u text a (kind.Reference target) t = refl
  value_second u text a (kind.Coordinate components) t = none (cell_is a 1)
  value_second u text a (kind.Number x) t = refl
  value_second u text a (kind.Text longest) t = absurd (t longest refl)
  value_second u text a kind.Date t = refl
  value_second u text a (kind.Enumeration leaves) t = refl
  value_second u text a (kind.Line forms components) t = none (cell_is a 1)
