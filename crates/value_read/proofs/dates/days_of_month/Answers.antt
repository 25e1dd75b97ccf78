-- `value_read::dates::days_of_month` meets its contract: the definition at each month. Assumes nothing.
use Prim.Native.Nat.{ℕ}
use mathlib.Core.Path.{◌≡◌, sym, ◌∙◌}
use mathlib.Core.Logic.{◌⊎◌, inl, inr}
use borrow.Author.Tests.{ne_eqb}
use Rattle.meaning.specs.Bytes.{choose}
use Rattle.meaning.specs.Value.{days_of_month}
use Rattle.value_read.proofs.dates.days_of_month.Goals as goal

pub returns-then-is_leap_year : goal.returns-then-is_leap_year
unfolding days_of_month choose
returns-then-is_leap_year c = rw (c.in-2.is, sym c.is_leap_year.ensures ∙ c.if-is_leap_year.true)

pub returns-else-is_leap_year : goal.returns-else-is_leap_year
unfolding days_of_month choose
returns-else-is_leap_year c = rw (c.in-2.is, sym c.is_leap_year.ensures ∙ c.if-is_leap_year.false)

pub returns-in-4 : goal.returns-in-4
unfolding days_of_month choose
returns-in-4 c =
    go _ c.in-4.is where
      go : (month : ℕ) → (month ≡ 4) ⊎ ((month ≡ 6) ⊎ ((month ≡ 9) ⊎ (month ≡ 11)))
          → 30 ≡ days_of_month c.args.year month
      go month (inl e) = rw e
      go month (inr (inl e)) = rw e
      go month (inr (inr (inl e))) = rw e
      go month (inr (inr (inr e))) = rw e

pub returns-in_default : goal.returns-in_default
unfolding days_of_month choose
returns-in_default c =
    let month = c.args.month in
    rw (
      ne_eqb month 2 c.in_default.in_default-own.rest.0.1,
      ne_eqb month 4 (λ e. c.in_default.in_default-own.rest.1 (inl e)),
      ne_eqb month 6 (λ e. c.in_default.in_default-own.rest.1 (inr (inl e))),
      ne_eqb month 9 (λ e. c.in_default.in_default-own.rest.1 (inr (inr (inl e)))),
      ne_eqb month 11 (λ e. c.in_default.in_default-own.rest.1 (inr (inr (inr e)))),
    )
