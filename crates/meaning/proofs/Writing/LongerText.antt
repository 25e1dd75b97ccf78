-- A table of which nothing lies outside its text is the same with more bytes behind the text. Assumes nothing.
use Prim.Native.Nat.{ℕ, ◌+◌, ◌≤◌}
use native.Mathlib.Omega.{arith}
use mathlib.Core.Path.{◌≡◌, refl, sym, ap, ap₂, ◌∙◌}
use mathlib.Core.Bool.{Bool, true, false}
use mathlib.Core.List.{List, [], ◌∷◌, ◌++◌}
use lib.IntN.{ℤ, pos, nat_abs}
use lib.ListN.{length, take, drop, get_or, length-append, length-drop}
use lib.Seq.{take-append-le, drop-append-le}
use Rattle.meaning.specs.Bytes.{choose}
use Rattle.meaning.specs.Model.{Model, table_at}
use Rattle.meaning.specs.Row.{Pair, pairs_of}
use Rattle.meaning.specs.Reading.{Content, cell_at, stretch}
use Rattle.meaning.specs.Writing.{stretch_bytes}
use Rattle.meaning.specs.Readback.{Shown, of_cells, ShownObject, shown_stretch, has_start, shown_pairs, shown_objects}
use Rattle.meaning.specs.WritingClaims.{Inside, PairsInside, ObjectsInside, SameTable}
use Rattle.meaning.proofs.Reading.Stretches.{stretch_pos}
use Rattle.meaning.proofs.Judge.Valid.{Valid}
use Rattle.meaning.proofs.Judge.Shown.{shows, inside_shows, Shows, valid_inside}

module _ (text zs : List ℕ) where
  bytes_longer : (i n : ℕ) → i + n ≤ length text → stretch text i n ≡ stretch (text ++ zs) i n
  bytes_longer i n h = sym (ap (take n) (drop-append-le i text zs (omega arith)) ∙ take-append-le n (drop i text) zs (rw length-drop (omega arith)))

  shows_longer : (start : ℤ) (more : ℕ) (cell : ℤ) (s : List ℕ) → Shows text start more cell s → Shows (text ++ zs) start more cell s
  shows_longer start more cell s h =
      let i : ℕ = nat_abs start in
      let fits = h.fits in
      let same : stretch_bytes text start (length s) ≡ stretch_bytes (text ++ zs) start (length s) =
      rw h.starts (stretch_pos text i (length s) ∙ (bytes_longer i (length s) fits ∙ sym (stretch_pos (text ++ zs) i (length s)))) in
      record { starts = h.starts; says = h.says; fits = rw (length-append text zs) (omega arith); bytes = sym same ∙ h.bytes }

  stretch_longer : (start : ℤ) (more : ℕ) (cell : ℤ) → Inside (shown_stretch text start more cell) → shown_stretch text start more cell ≡ shown_stretch (text ++ zs) start more cell
  stretch_longer start more cell h =
      let s = inside_shows text start more cell h in
      shows text start more cell _ s ∙ sym (shows (text ++ zs) start more cell _ (shows_longer start more cell _ s))

  pair_longer : (t : Bool) (a b : ℤ) → Inside (choose t (shown_stretch text b 1 a) (of_cells a b)) → choose t (shown_stretch text b 1 a) (of_cells a b) ≡ choose t (shown_stretch (text ++ zs) b 1 a) (of_cells a b)
  unfolding choose
  pair_longer true a b h = stretch_longer b 1 a h
  pair_longer false a b h = refl

  pairs_longer : (ps : List Pair) (cs : List ℤ) → PairsInside (shown_pairs text ps cs) → shown_pairs text ps cs ≡ shown_pairs (text ++ zs) ps cs
  unfolding shown_pairs
  pairs_longer [] cs h = refl
  pairs_longer (p ∷ ps) cs h = ap₂ (λ (x : Shown) (xs : List Shown). x ∷ xs) (pair_longer (has_start p (get_or cs 0 (pos 0))) (get_or cs 0 (pos 0)) (get_or cs 1 (pos 0)) h.0) (pairs_longer ps (drop 2 cs) h.1)

  module _ (m : Model) (cs : List ℤ) where
    objects_longer : (rows : List ℕ) → ObjectsInside (shown_objects m text cs rows) → shown_objects m text cs rows ≡ shown_objects m (text ++ zs) cs rows
    unfolding shown_objects
    objects_longer [] h = refl
    objects_longer (row ∷ rows) h =
        let i = stretch_longer (get_or cs (row + 1) (pos 0)) 0 (get_or cs (row + 2) (pos 0)) h.0 in
        let ps = pairs_longer (pairs_of (table_at m.tables (cell_at cs row)).attributes) (drop (row + 3) cs) h.1 in
        ap₂ (λ (x : ShownObject) (xs : List ShownObject). x ∷ xs) (ap₂ (λ (i : Shown) (ps : List Shown). record { table = get_or cs row (pos 0); identification = i; pairs = ps }) i ps) (objects_longer rows h.2)

  pub longer_alike : (m : Model) (c : Content) → Valid m text c → SameTable m text c (text ++ zs) c
  longer_alike m c v =
      let inside = valid_inside m text c v in
      record { marks = refl; rows = refl; cells = refl; objects = objects_longer m c.cells c.rows inside; inside = inside; points = refl }
