-- `table_index::is_named` meets its contract: the part of the text that the row's second and third cell say is compared. Assumes nothing.
use Prim.Native.Nat.{ℕ}
use mathlib.Core.Path.{ap, ◌∙◌}
use mathlib.Core.List.{List}
use Rattle.meaning.specs.Value.{same_identification}
use Rattle.table_index.proofs.Parts.{part_named}
use Rattle.table_index.proofs.Objects.is_named.Goals as goal

pub returns : goal.returns
returns c =
    let a = c.args in
    c.same_identification.ensures ∙ ap (λ (s : List ℕ). same_identification s a.identification.now) (part_named a.self.now.text.now a.self.now.rows.now a.self.now.cells.now a.object _ _ c.identification_at-name.ensures.start c.identification_at-name.ensures.size)
