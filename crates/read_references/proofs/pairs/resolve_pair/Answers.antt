-- `read_references::resolve_pair` meets its contract. Assumes nothing.
use Rattle.std.proofs.Common.{◌≡◌, ℕ, ◌-◌, ◌≤◌, length, take, Option, None, Some, Err, refl, sym, ap, ap₂, ◌∙◌, arith, length-take}
use Rattle.std.proofs.lemmas.Result.{err_from_is_err_and}
use Rattle.meaning.specs.Reading.{stretch}
use Rattle.meaning.specs.Table.{resolved, unresolved}
use Rattle.table_index.specs.Holds.{found_of}
use Rattle.std.specs.Option.{ok_or}
use Rattle.read_references.specs.declared.Unresolved.{Unresolved}
use Rattle.table_index.proofs.Meant.{found_lt, length_objects}
use Rattle.read_references.specs.Resolved.{objects_named}
use Rattle.read_references.proofs.Named.{pair_undefined, pair_found, pair_missing}
use Rattle.read_references.proofs.pairs.resolve_pair.Goals as goal

pub returns-then-a-eq0 : goal.returns-then-a-eq0
returns-then-a-eq0 c =
    let a = c.args in
    let r = a.named.now in
    pair_undefined r.text.now _ a.object a.field a.cell a.table a.cells.now (sym c.size_at-a.ensures ∙ c.if-a-eq0.true)

pub put_reference-requires : goal.put_reference-requires
put_reference-requires c =
    let a = c.args in
    let r = a.named.now in
    let p = c.cut_stretch-part.result in
    let os = objects_named r a.cells.now in
    let o : c.find_reference-found.result ≡ Some c.in_ok-o.o = grind arith in
    let k = found_lt a.table 0 (stretch r.text.now p.start p.len) os _ (sym c.find_reference-found.ensures ∙ ap found_of o) in
    let n : length os ≤ r.count = omega (arith, length_objects r.text.now a.cells.now (take r.count r.rows.now), length-take r.count r.rows.now) in
    record {
      cell_in_bounds = c.requires.pair_here.inside;
      o_bound = omega (arith, c.requires.objects_known.listed.in_rows, c.well_formed, k, n);
    }

pub returns : goal.returns
returns c =
    let a = c.args in
    let r = a.named.now in
    let s = c.size_at-a in
    let p = c.cut_stretch-part in
    let o : c.find_reference-found.result ≡ Some c.in_ok-o.o = grind arith in
    let same = p.ensures.same r.text.now refl ∙ ap₂ (λ (x y : ℕ). stretch r.text.now x (y - 1)) c.size_at-b.ensures s.ensures in
    ap resolved c.put_reference.ensures
    ∙ pair_found r.text.now _ a.object a.field a.cell a.table a.cells.now (λ z. c.if-a-eq0.false (s.ensures ∙ z)) p.result.start p.result.len same _ (sym c.find_reference-found.ensures ∙ ap found_of o)

pub returns-in_err-o : goal.returns-in_err-o
returns-in_err-o c =
    let a = c.args in
    let r = a.named.now in
    let s = c.size_at-a in
    let p = c.cut_stretch-part in
    let none : c.find_reference-found.result ≡ None = grind arith in
    let e : Err c.in_err-o.field-0.0 ≡ Err (record { object = a.object; field = a.field }) = sym c.in_err-o.was ∙ c.ok_or.ensures.value ∙ ap (λ (x : Option ℕ). ok_or x (record { object = a.object; field = a.field })) none in
    let same = p.ensures.same r.text.now refl ∙ ap₂ (λ (x y : ℕ). stretch r.text.now x (y - 1)) c.size_at-b.ensures s.ensures in
    let given = err_from_is_err_and c.from_residual.result c.from_residual.ensures.1 in
    rw given.1 (ap (λ (x : Unresolved). unresolved x.object x.field) (given.2 ∙ cc)
    ∙ pair_missing r.text.now _ a.object a.field a.cell a.table a.cells.now (λ z. c.if-a-eq0.false (s.ensures ∙ z)) p.result.start p.result.len same (sym c.find_reference-found.ensures ∙ ap found_of none))
