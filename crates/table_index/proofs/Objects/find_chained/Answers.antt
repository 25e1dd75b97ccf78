-- `table_index::find_chained` meets its contract. The loop's invariant: what is looked for stands on the chain from this word on, or nowhere.
-- The measure is the word's object, as a link leads to an earlier one. Assumes nothing.
use Rattle.std.proofs.Common.{ℕ, ◌+◌, ◌-◌, ◌%◌, ◌<◌, length, sym, ap, ◌∙◌, arith}
use Rattle.table_index.proofs.Walk.{along_start, along_next, along_object, along_other, link_le}
use Rattle.table_index.proofs.Grown.{usable_lt, usable_few}
use Rattle.table_index.proofs.Last.{scan_hit, scan_end}
use Rattle.table_index.proofs.Objects.find_chained.Goals as goal

pub head_at-head-requires : goal.head_at-head-requires
head_at-head-requires c = (usable_lt _ _ c.requires.index_value).0

pub loop-word-init : goal.loop-word-init
loop-word-init c =
    let a = c.args in
    let p = c.requires in
    let few = usable_few _ _ _ _ _ p.index_value p.rows_listed in
    let at = c.head_at-head.ensures.value ∙ ap (λ (x : ℕ). length a.self.now.rows.now + x % (length a.self.now.index.now - length a.self.now.rows.now)) p.hash_value in
    along_start a.self.now.seed _ a.self.now.count a.identification.now few _ a.self.now.index.now p.chained _ (usable_lt _ _ p.index_value).0 at

pub overflow_sub-o : goal.overflow_sub-o
overflow_sub-o c =
    let few = usable_few _ _ _ _ _ c.requires.index_value c.requires.rows_listed in
    omega (arith, along_object _ _ _ _ few _ c.loop-word.word c.loop-word.invariant c.loop-word-test.true)

pub is_led-requires : goal.is_led-requires
is_led-requires c =
    let a = c.args in
    let p = c.requires in
    let w = c.loop-word in
    let few = usable_few _ _ _ _ _ p.index_value p.rows_listed in
    let e = along_object _ _ _ _ few _ w.word w.invariant c.loop-word-test.true in
    let l : w.word % 4294967296 - 1 < a.self.now.count = omega (arith, w.invariant.within) in
    record {
      object_in_bounds = omega (arith, p.rows_listed.in_rows);
      row = p.rows_listed.row _ l;
      other_hash = along_other a.self.now.seed _ a.self.now.count a.identification.now few _ w.word w.invariant _ _ e p.hash_value;
    }

pub returns-then-is_led : goal.returns-then-is_led
returns-then-is_led c =
    let w = c.loop-word in
    let few = usable_few _ _ _ _ _ c.requires.index_value c.requires.rows_listed in
    let e = along_object _ _ _ _ few _ w.word w.invariant c.loop-word-test.true in
    scan_hit _ _ _ w.invariant.rest _ e (sym c.is_led.ensures ∙ c.if-is_led.true)

pub offset_bounds-self-o : goal.offset_bounds-self-o
offset_bounds-self-o c =
    let p = c.requires in
    let few = usable_few _ _ _ _ _ p.index_value p.rows_listed in
    let e = along_object _ _ _ _ few _ c.loop-word.word c.loop-word.invariant c.loop-word-test.true in
    omega (arith, c.loop-word.invariant.within, p.rows_listed.in_rows, usable_lt (length c.args.self.now.rows.now) (length c.args.self.now.index.now) p.index_value)

pub bounds-self-o : goal.bounds-self-o
bounds-self-o c =
    let p = c.requires in
    let few = usable_few _ _ _ _ _ p.index_value p.rows_listed in
    let e = along_object _ _ _ _ few _ c.loop-word.word c.loop-word.invariant c.loop-word-test.true in
    omega (arith, c.loop-word.invariant.within, p.rows_listed.in_rows, usable_lt (length c.args.self.now.rows.now) (length c.args.self.now.index.now) p.index_value)

pub loop-word-smaller : goal.loop-word-smaller
loop-word-smaller c =
    let a = c.args in
    let p = c.requires in
    let w = c.loop-word in
    let few = usable_few _ _ _ _ _ p.index_value p.rows_listed in
    let e = along_object _ _ _ _ few _ w.word w.invariant c.loop-word-test.true in
    let o = w.word % 4294967296 - 1 in
    let l : o < a.self.now.count = omega (arith, w.invariant.within) in
    omega (arith, link_le a.self.now.seed _ a.self.now.count a.identification.now few _ a.self.now.index.now p.chained o l)

pub loop-word-preserved : goal.loop-word-preserved
loop-word-preserved c =
    let a = c.args in
    let p = c.requires in
    let w = c.loop-word in
    let few = usable_few _ _ _ _ _ p.index_value p.rows_listed in
    let e = along_object _ _ _ _ few _ w.word w.invariant c.loop-word-test.true in
    along_next a.self.now.seed _ a.self.now.count a.identification.now few _ a.self.now.index.now p.chained w.word _ e w.invariant (sym c.is_led.ensures ∙ c.if-is_led.false)

pub returns : goal.returns
returns c =
    let w = c.loop-word in
    scan_end _ _ _ w.invariant.rest (omega arith)
