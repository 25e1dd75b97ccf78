-- The model of records that pass: its topics and tables are those of all records. Assumes nothing.
use Prim.Native.Nat.{ℕ}
use mathlib.Core.Path.{◌≡◌}
use mathlib.Core.Bool.{true, true≢false}
use mathlib.Core.List.{List}
use borrow.Author.Tests.{not-false}
use Rattle.meaning.specs.Bytes.{choose, refuse}
use Rattle.meaning.specs.Model.{Records, finish, overrun, entry, Model, topics_of, tables_of, model_of}
use Rattle.meaning.specs.Check.{Checked, good, Seen, nothing_seen, follows, keeps, see, check_records}
use Rattle.meaning.proofs.Model.Marks.{bad_good, passed, is_transfer}

-- the first record is a transfer record, which is no topic and no table
pub model_lists : (rs : Records) (u : Checked) (m : Model) → check_records 0 nothing_seen rs u ≡ good m → ((model_of rs).topics ≡ topics_of rs) × ((model_of rs).tables ≡ tables_of 0 rs)
unfolding check_records model_of topics_of tables_of choose
model_lists (finish at) u m h = absurd (true≢false (passed _ at _ m h).0)
model_lists (overrun at) u m h = absurd (bad_good at m h)
model_lists (entry at kind p others) u m h = let one : kind ≡ 1 = is_transfer kind (not-false _ (passed _ at _ m h).0) in (rw one, rw one)

-- the check goes on behind a record that may stand there and keeps the rules
pub entry_kept : (last at kind : ℕ) (seen : Seen) (p : List ℕ) (others : Records) (u : Checked) → follows last kind ≡ true → keeps kind p seen ≡ true → check_records last seen (entry at kind p others) u ≡ check_records kind (see kind p seen) others u
unfolding check_records refuse
entry_kept last at kind seen p others u fits rules = rw (fits, rules)
