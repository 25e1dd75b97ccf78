-- `read_step::object_line` meets its contract. Assumes nothing.
use Prim.Native.Nat.{ℕ, ◌-◌}
use mathlib.Core.List.{List}
use mathlib.Core.Path.{◌≡◌, refl, ap, ◌∙◌}
use Rattle.std.proofs.Common.{Some, rules}
use Rattle.read_frame.specs.Codes.{place_or_0}
use Rattle.read_frame.specs.declared.codes.Code.TheVariants.{Obje}
use Rattle.read_frame.proofs.Words.{same_code}
use native.Mathlib.Omega.{arith}
use Rattle.meaning.specs.Reading.{stretch}
use Rattle.model_records.specs.Records.{model_at}
use Rattle.read_state.specs.Meaning.{content_of}
use Rattle.read_step.proofs.Stepping.{behind_within, adds_as, model_short, table_open, object_here, object_none}
use Rattle.read_state.proofs.Same.{kept}
use Rattle.read_step.proofs.line.object_line.Goals as goal

pub returns-then-ne : goal.returns-then-ne
returns-then-ne c =
    let a = c.args in
    let b : List ℕ = a.model.now.bytes.now in
    let n = a.line.now in
    let u = a.buffers.now in
    let l : List ℕ = stretch n.text.now n.at (n.end - n.at) in
    let m = c.behind_objects.ensures.meant in
    let h = rw c.bytes.ensures at c.head_of-head.ensures in
    record {
      row = record {
        step = λ k rooms marks points er ec fits.
            let x = content_of k a.state marks u.rows.now u.cells.now points in
            c.plain_step.ensures.step b k marks u.rows.now u.cells.now points
            ∙ rw c.bytes-then-ne.ensures at (m rooms n.text.now n.at x)
            ∙ object_none (model_at b) rooms n.text.now l c.head_of-head.result h a.table n.at x (λ q. let same = rw (same_code c.head_of-head.result.code Obje q) at c.ne.ensures in search rules);
        holds = λ marks points g. c.plain_step.ensures.holds b n.text.now u.seed marks u.rows.now u.cells.now points u.index.now c.behind_objects.ensures.held g;
      };
      same = kept u;
      others = (refl, refl);
    }

pub object_fields-requires : goal.object_fields-requires
object_fields-requires c =
    let a = c.args in
    let b : List ℕ = a.model.now.bytes.now in
    let n = a.line.now in
    let p = c.requires in
    let h = rw c.bytes.ensures at c.head_of-head.ensures in
    let code = c.head_of-head.result.code in
    let same : code ≡ Some Obje = search rules in
    record {
      model_len_bound = (model_short b p.placed.good, p.placed.undefined);
      table_holds = table_open b a.model.now.shape a.model.now.places a.table _ p.placed p.table_lt_tables c.attributes_at.ensures;
      behind_bound = behind_within n.text.now n.at n.end c.head_of-head.result.behind n.inside.0 n.inside.1 h.within;
      fields_behind = (h.some (rw same (omega arith)) n.at, h.others n.at);
      indexed_table = p.indexed_table;
    }

pub returns : goal.returns
returns c =
    let a = c.args in
    let b : List ℕ = a.model.now.bytes.now in
    let n = a.line.now in
    let u = a.buffers.now in
    let l : List ℕ = stretch n.text.now n.at (n.end - n.at) in
    let h = rw c.bytes.ensures at c.head_of-head.ensures in
    let code = c.head_of-head.result.code in
    let same : code ≡ Some Obje = search rules in
    let f = c.object_fields.ensures in
    record {
      row = adds_as b n.text.now u.seed a.state _ _ u.rows.now _ u.cells.now _ u.index.now _ _
          (λ rooms x. object_here (model_at b) rooms n.text.now l c.head_of-head.result h a.table n.at x (ap place_or_0 same)) f.row;
      same = f.same;
      others = f.others;
    }
