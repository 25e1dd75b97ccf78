-- A walk over the attribute records of a table, which puts the bytes of each attribute's pairs. Assumes nothing.
use Prim.Native.Nat.{ℕ, ◌+◌, ◌*◌, ◌≤◌, min}
use native.Mathlib.Omega.{arith}
use mathlib.Core.Path.{◌≡◌, refl, sym, ap, ◌∙◌}
use mathlib.Core.Bool.{Bool, true, false}
use mathlib.Core.List.{List, [], ◌∷◌, ◌++◌}
use lib.Dec.{leb}
use lib.IntN.{ℤ, pos, nat_abs}
use lib.ListN.{length, drop, length-append, drop_of_length-le, get_or-eq_default}
use lib.Seq.{drop-drop}
use borrow.Author.Tests.{leb-true, leb-false}
use Rattle.meaning.specs.Bytes.{byte_at}
use Rattle.meaning.specs.Model.{Model, Attribute, attribute_of}
use Rattle.meaning.specs.Row.{Pair, OfAttribute, OfComponent, OfLine, pairs_of_type, pairs_of}
use Rattle.meaning.specs.Reading.{Content, cell_at, line_attributes}
use Rattle.meaning.specs.Writing.{pair_fields, attribute_lines, spaced, lines_bytes}
use Rattle.meaning.specs.Width.{cut_lines}
use Rattle.model_records.specs.Records.{kind_at, payload_at, next_at, pairs_at}
use Rattle.model_records.specs.AtRecord.{AtRecord, AttributeNext, AttributesHere}
use Rattle.model_records.proofs.AtRecord.{attribute_here, no_attribute}
use Rattle.model_records.proofs.Types.{parts_room}
use Rattle.model_records.specs.Counts.{CountsOf}
use Rattle.model_records.proofs.Counting.{pairs_more, pairs_few}
use Rattle.write_lines.specs.declared.Put.{Put}
use Rattle.write_lines.specs.Puts.{Puts}
use Rattle.write_lines.proofs.Left.{Left, left_start, left_end, left_on}
use Rattle.write_objects.proofs.Joined.{spaced_append, cut_lines_append, fields_append, attributes_append, attribute_lines_append}

-- ## What is put for pairs, the first of which is at a cell

-- their fields
abbrev pub fields_meant : (u : ℕ) (text : List ℕ) → Content → List ℤ → (cell : ℕ) → List Pair → List ℕ
fields_meant u text c cells cell ps = spaced (pair_fields u text c ps (drop cell cells))

pub fields_meant_lem : (u : ℕ) (text : List ℕ) (c : Content) (cells : List ℤ) (cell : ℕ) (ps qs : List Pair)
    → fields_meant u text c cells cell (ps ++ qs) ≡ fields_meant u text c cells cell ps ++ fields_meant u text c cells (cell + 2 * length ps) qs
fields_meant_lem u text c cells cell ps qs =
    rw (fields_append u text c ps qs (drop cell cells), spaced_append (pair_fields u text c ps (drop cell cells)) (pair_fields u text c qs (drop (2 * length ps) (drop cell cells))), drop-drop (2 * length ps) cell cells)

pub no_fields : (u : ℕ) (text : List ℕ) (c : Content) (cells : List ℤ) (cell : ℕ) → fields_meant u text c cells cell [] ≡ []
unfolding pair_fields spaced
no_fields u text c cells cell = refl

-- the lines of their line attributes
abbrev pub lines_meant : (mark width : ℕ) → Content → (cell : ℕ) → List Pair → List ℕ
lines_meant mark width c cell ps = cut_lines mark width (lines_bytes (attribute_lines c (line_attributes cell ps)))

pub lines_meant_lem : (mark width : ℕ) (c : Content) (cell : ℕ) (ps qs : List Pair)
    → lines_meant mark width c cell (ps ++ qs) ≡ lines_meant mark width c cell ps ++ lines_meant mark width c (cell + 2 * length ps) qs
lines_meant_lem mark width c cell ps qs =
    rw (attributes_append cell ps qs, attribute_lines_append c (line_attributes cell ps) (line_attributes (cell + 2 * length ps) qs))
    (cut_lines_append mark width (attribute_lines c (line_attributes cell ps)) (attribute_lines c (line_attributes (cell + 2 * length ps) qs)))

pub no_lines : (mark width : ℕ) (c : Content) (cell : ℕ) → lines_meant mark width c cell [] ≡ []
unfolding line_attributes attribute_lines lines_bytes cut_lines
no_lines mark width c cell = refl

-- ## A row behind the cells is as one at their end

pub row_fields : (cells : List ℤ) (row cell : ℕ) → cell ≡ min row (length cells) → drop (cell + 3) cells ≡ drop (row + 3) cells
row_fields cells row cell e = go (leb row (length cells)) refl
  where
    go : (x : Bool) → leb row (length cells) ≡ x → drop (cell + 3) cells ≡ drop (row + 3) cells
    go true h = let l = leb-true row (length cells) h in let m : cell ≡ row = omega arith in rw m
    go false h =
        let l = leb-false row (length cells) h in
        drop_of_length-le cells {i = cell + 3} (omega arith) ∙ sym (drop_of_length-le cells {i = row + 3} (omega arith))

module _ (c : Content) where
  no_cell : (cell : ℕ) → length c.cells ≤ cell → cell_at c.cells cell ≡ 0
  no_cell cell h = ap nat_abs (get_or-eq_default c.cells (pos 0) h)

  behind_cells : (ps : List Pair) (i j : ℕ) → length c.cells ≤ i → length c.cells ≤ j → attribute_lines c (line_attributes i ps) ≡ attribute_lines c (line_attributes j ps)
  unfolding line_attributes attribute_lines
  behind_cells [] i j h g = refl
  behind_cells (OfAttribute o type ∷ ps) i j h g = behind_cells ps (i + 2) (j + 2) (omega arith) (omega arith)
  behind_cells (OfComponent k ∷ ps) i j h g = behind_cells ps (i + 2) (j + 2) (omega arith) (omega arith)
  behind_cells (OfLine o forms ks ∷ ps) i j h g =
      rw (no_cell i h, no_cell j g, no_cell (i + 1) (omega arith), no_cell (j + 1) (omega arith), behind_cells ps (i + 2) (j + 2) (omega arith) (omega arith))

  pub row_lines_lem : (ps : List Pair) (row cell : ℕ) → cell ≡ min row (length c.cells) → attribute_lines c (line_attributes (cell + 3) ps) ≡ attribute_lines c (line_attributes (row + 3) ps)
  row_lines_lem ps row cell e = go (leb row (length c.cells)) refl
    where
      go : (x : Bool) → leb row (length c.cells) ≡ x → attribute_lines c (line_attributes (cell + 3) ps) ≡ attribute_lines c (line_attributes (row + 3) ps)
      go true h = let l = leb-true row (length c.cells) h in let m : cell ≡ row = omega arith in rw m
      go false h = let l = leb-false row (length c.cells) h in behind_cells ps (cell + 3) (row + 3) (omega arith) (omega arith)

-- ## The walk

-- the pairs of the attribute whose record is at a byte
abbrev pub pairs_here : (b : List ℕ) (at : ℕ) → List Pair
pairs_here b at = pairs_of_type (attribute_of at (payload_at b at)).optional (attribute_of at (payload_at b at)).type

-- the pairs from the record at this byte on are left, the first of which is at this cell
pub record Walking (m : Model) (b : List ℕ) (meant : (cell : ℕ) → List Pair → List ℕ) (most : ℕ) (whole : List ℕ) (p₀ : Put) (out₀ : List ℕ) (at cell : ℕ) (p : Put) (out : List ℕ) : Type 0 where
  pub topics : ℕ
  pub tables : ℕ
  pub standing : AtRecord m b at topics tables
  pub few : cell ≤ most + at
  pub left : Left whole p₀ out₀ (meant cell (pairs_at b at)) p out

pub walk_start : (m : Model) (b : List ℕ) (meant : (cell : ℕ) → List Pair → List ℕ) (most : ℕ) (whole : List ℕ) (first cell : ℕ) (q p : Put) (out : List ℕ)
    → AttributesHere m b first → cell ≤ most + first → meant cell (pairs_at b first) ≡ whole → Puts [] q out out p → Walking m b meant most whole p out first cell p out
walk_start m b meant most whole first cell q p out h few same none = record {
  topics = h.topics;
  tables = h.tables;
  standing = h.standing;
  few = few;
  left = left_start whole (meant cell (pairs_at b first)) q p out same none;
}

module _ {m : Model} {b : List ℕ} {meant : (cell : ℕ) → List Pair → List ℕ} {most : ℕ} {whole : List ℕ} {p₀ : Put} {out₀ : List ℕ} {at cell : ℕ} {p : Put} {out : List ℕ} (i : Walking m b meant most whole p₀ out₀ at cell p out) where
  -- no attribute record more
  pub walk_end : (q : Put) → (kind_at b at ≡ 5 → ⊥) → meant cell [] ≡ [] → Puts [] q out₀ out₀ p₀ → Puts whole q out₀ out p
  unfolding pairs_of
  walk_end q d e none = left_end i.left q (ap (λ (l : List Attribute). meant cell (pairs_of l)) (no_attribute m b at i.topics i.tables i.standing d) ∙ e) none

  module _ (e : kind_at b at ≡ 5) where
    attribute : AttributeNext m b at i.topics i.tables
    attribute = attribute_here m b at i.topics i.tables i.standing e

    walk_parts : (at + 6 ≤ next_at b at) × (next_at b at ≤ length b)
    walk_parts = (parts_room b at attribute.good, attribute.good.fits)

    split : pairs_at b at ≡ pairs_here b at ++ pairs_at b (next_at b at)
    unfolding pairs_of
    split = ap pairs_of attribute.attributes

    module _ (f k : ℕ) (c : CountsOf (byte_at b (at + 5)) f k) where
      pub walk_count : k ≤ 3
      walk_count = omega (arith, c.pairs, pairs_few (byte_at b (at + 5)))

      counted : length (pairs_here b at) ≡ k
      counted = omega (arith, pairs_more m b at i.topics i.tables attribute f k c, ap length split, length-append (pairs_here b at) (pairs_at b (next_at b at)))

      module _ (appends : (cell : ℕ) (ps qs : List Pair) → meant cell (ps ++ qs) ≡ meant cell ps ++ meant (cell + 2 * length ps) qs) where
        turn : meant cell (pairs_at b at) ≡ meant cell (pairs_here b at) ++ meant (cell + 2 * k) (pairs_at b (next_at b at))
        turn = ap (meant cell) split ∙ appends cell (pairs_here b at) (pairs_at b (next_at b at)) ∙ ap (λ (x : ℕ). meant cell (pairs_here b at) ++ meant (cell + 2 * x) (pairs_at b (next_at b at))) counted

        -- an attribute's pairs are put
        pub walk_on : (out' : List ℕ) (r : Put) → Puts (meant cell (pairs_here b at)) p out out' r → Walking m b meant most whole p₀ out₀ (next_at b at) (cell + 2 * k) r out'
        walk_on out' r put = record {
          topics = i.topics;
          tables = i.tables;
          standing = attribute.next;
          few = omega (arith, i.few, walk_parts.0, walk_count);
          left = left_on i.left (meant cell (pairs_here b at)) (meant (cell + 2 * k) (pairs_at b (next_at b at))) turn out' r put;
        }
