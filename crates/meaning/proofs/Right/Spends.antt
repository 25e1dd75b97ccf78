-- What the lines of a file deliver takes bytes of it: an object 7, a point 9. Assumes nothing.
use Prim.Native.Nat.{ℕ, zero, suc, ◌+◌, ◌*◌, ◌≤◌, ◌<◌}
use native.Mathlib.Nat.{mul-add, mul-one}
use native.Mathlib.Omega.{arith}
use mathlib.Core.Path.{◌≡◌, refl, ap, ◌∙◌}
use mathlib.Core.Bool.{true}
use mathlib.Core.List.{List, [], ◌∷◌, ◌++◌}
use mathlib.Core.Logic.{◌⊎◌, inl, inr}
use lib.IntN.{ℤ}
use lib.ListN.{length, length-append}
use Rattle.meaning.specs.Model.{Component, Table, Model, table_at}
use Rattle.meaning.specs.Check.{is_dimension, GoodModel}
use Rattle.meaning.specs.Field.{Field}
use Rattle.meaning.specs.Row.{Pair, OfAttribute, OfComponent, OfLine, pairs_of}
use Rattle.meaning.specs.Right.{Line, Values}
use Rattle.meaning.specs.Right as right
use Rattle.meaning.specs.Reasons as reasons
use Rattle.meaning.specs.Reasons.{Place, start, in_description, before_transfer, before_model, topics_from, tables_from, objects_in, line_in, before_end, end, behind_pair, Bare, Titled, Pointed, pairs_in, Gain, Follows, used_with, cells_with, points_with, Reached}
use Rattle.meaning.specs.RoomClaims.{longest_row}
use Rattle.meaning.proofs.Model.AttributeBytes.{dimensions}
use Rattle.meaning.proofs.Model.GoodPairs.{pairs_good}
use Rattle.meaning.proofs.Reading.RowsRead.{PairsGood}
use Rattle.meaning.proofs.Right.Lengths.{coded_long, bytes_in, bytes_behind}

-- ## Places

two_or_three : (n : ℕ) → is_dimension n ≡ true → 2 ≤ n
two_or_three n h = by (dimensions n h)
  where
    by : (n ≡ 2) ⊎ (n ≡ 3) → 2 ≤ n
    by (inl e) = omega arith
    by (inr e) = omega arith

module _ (m : Model) where
  -- the objects of a place are of a table of the model, and its points have two components at least
  abbrev Sound : Place → Type 0
  Sound start = Unit {0}
  Sound in_description = Unit {0}
  Sound before_transfer = Unit {0}
  Sound before_model = Unit {0}
  Sound (topics_from p) = Unit {0}
  Sound (tables_from p t) = Unit {0}
  Sound (objects_in t) = t < length m.tables
  Sound (line_in t s o forms cs ps) = (t < length m.tables) × (2 ≤ length cs) × PairsGood ps
  Sound before_end = Unit {0}
  Sound end = Unit {0}

  behind_sound : (t : ℕ) (ps : List Pair) → t < length m.tables → PairsGood ps → Sound (behind_pair t ps)
  unfolding behind_pair
  behind_sound t [] l h = l
  behind_sound t (OfAttribute o type ∷ ps) l h = behind_sound t ps l h.1
  behind_sound t (OfComponent c ∷ ps) l h = behind_sound t ps l h.1
  behind_sound t (OfLine o forms cs ∷ ps) l h = (l, two_or_three (length cs) h.0.0, h.1)

  bare_sound : {x y : Place} {code : List ℕ} → Bare m x code y → Sound x → Sound y
  bare_sound reasons.Bare.scnt h = tt
  bare_sound reasons.Bare.emod h = tt
  bare_sound (reasons.Bare.etop o) h = tt
  bare_sound reasons.Bare.etab h = tt
  bare_sound (reasons.Bare.elin {t = t} {ps = ps}) h = behind_sound t ps h.0 h.2
  bare_sound (reasons.Bare.undrawn {t = t} {ps = ps}) h = behind_sound t ps h.0 h.2
  bare_sound reasons.Bare.ende h = tt

  titled_sound : {x y : Place} {code name : List ℕ} → Titled m x code name y → Sound y
  titled_sound reasons.Titled.mtid = tt
  titled_sound reasons.Titled.modl = tt
  titled_sound (reasons.Titled.topi t) = tt
  titled_sound (reasons.Titled.tabl t o) = t.within

  pointed_sound : {x y : Place} {code : List ℕ} {cs : List Component} → Pointed x code cs y → Sound x → Sound y
  pointed_sound reasons.Pointed.stpt h = h
  pointed_sound (reasons.Pointed.straight d f) h = h
  pointed_sound (reasons.Pointed.arc d f) h = h
  pointed_sound reasons.Pointed.arc_end h = h

  follows_sound : {used : List (List ℕ)} {x y : Place} {l : Line} {g : Gain} → GoodModel m → Follows m used x l y g → Sound x → Sound y
  follows_sound good (reasons.Follows.bare b a) h = bare_sound b h
  follows_sound good (reasons.Follows.titled t c) h = titled_sound t
  follows_sound good (reasons.Follows.described d) h = tt
  follows_sound good (reasons.Follows.divided d a) h = tt
  follows_sound good (reasons.Follows.obje {t = t} c i n f) h = behind_sound t (pairs_in m t) h (pairs_good m good t)
  follows_sound good (reasons.Follows.pointed p l) h = pointed_sound p h

-- ## What a line adds takes its bytes

-- a row of a table is no longer than the longest one
row_short : (ts : List Table) (t : ℕ) → t < length ts → 3 + 2 * length (pairs_of (table_at ts t).attributes) ≤ longest_row ts
unfolding longest_row
row_short [] t l = absurd (omega arith)
row_short (k ∷ ts) zero l = omega arith
row_short (k ∷ ts) (suc t) l = let h = row_short ts t (omega arith) in omega arith

values_length : {u : ℕ} {cs : List Component} {fs : List Field} {vs : List ℤ} → Values u cs fs vs → length fs ≡ length cs
values_length right.Values.none = refl
values_length (right.Values.one d n v) = ap suc (values_length v)

-- a point's line: its code, and two components at least
pointed_code : {x y : Place} {code : List ℕ} {cs : List Component} → Pointed x code cs y → length code ≡ 4
pointed_code reasons.Pointed.stpt = refl
pointed_code (reasons.Pointed.straight d f) = refl
pointed_code (reasons.Pointed.arc d f) = refl
pointed_code reasons.Pointed.arc_end = refl

pointed_components : (m : Model) {x y : Place} {code : List ℕ} {cs : List Component} → Pointed x code cs y → Sound m x → 2 ≤ length cs
pointed_components m reasons.Pointed.stpt h = h.1
pointed_components m (reasons.Pointed.straight d f) h = h.1
pointed_components m (reasons.Pointed.arc d f) h = h.1
pointed_components m reasons.Pointed.arc_end h = h.1

-- what lines of n bytes deliver: "A point is four cells"
pub record Spends (m : Model) (n : ℕ) (used : List (List ℕ)) (cells points : ℕ) : Type 0 where
  pub for_rows : 7 * length used ≤ n
  pub for_cells : cells ≤ longest_row m.tables * length used
  pub count : ℕ
  pub fours : points ≡ 4 * count
  pub for_points : 9 * count ≤ n

-- more bytes
more_bytes : {m : Model} {n : ℕ} {used : List (List ℕ)} {cells points : ℕ} (k : ℕ) → Spends m n used cells points → Spends m (n + k) used cells points
more_bytes k s = record { for_rows = omega (arith, s.for_rows); for_cells = s.for_cells; count = s.count; fours = s.fours; for_points = omega (arith, s.for_points) }

follows_spends : {m : Model} {n : ℕ} {used : List (List ℕ)} {cells points : ℕ} {x y : Place} {l : Line} {g : Gain} → Follows m used x l y g → Sound m x → Spends m n used cells points
    → Spends m (n + (length l.bytes + 1)) (used_with g used) (cells_with g cells) (points_with g points)
unfolding used_with cells_with points_with
follows_spends (reasons.Follows.bare b a) h s = more_bytes _ s
follows_spends (reasons.Follows.titled t c) h s = more_bytes _ s
follows_spends (reasons.Follows.described d) h s = more_bytes _ s
follows_spends (reasons.Follows.divided d a) h s = more_bytes _ s
follows_spends {m} {n} {used} {cells} {points} (reasons.Follows.obje {t = t} {l = l} {i = i} {fs = fs} c id new f) h s =
    let long : 4 + 2 * length (i ∷ fs) ≤ length l.bytes = coded_long c in
    let one : length (used ++ (i.bytes ∷ [])) ≡ length used + 1 = length-append used (i.bytes ∷ []) in
    let more : longest_row m.tables * (length used + 1) ≡ longest_row m.tables * length used + longest_row m.tables = mul-add (longest_row m.tables) (length used) 1 ∙ ap (λ (k : ℕ). longest_row m.tables * length used + k) (mul-one (longest_row m.tables)) in
    record {
      for_rows = rw one (omega (arith, long, s.for_rows));
      for_cells = rw (one, more) (omega (arith, s.for_cells, row_short m.tables t h));
      count = s.count;
      fours = s.fours;
      for_points = omega (arith, s.for_points);
    }
follows_spends {m} {n} {used} {cells} {points} (reasons.Follows.pointed {code = code} {l = l} {cs = cs} p q) h s =
    let long : length code + 2 * length q.others ≤ length l.bytes = coded_long q.coded in
    record {
      for_rows = omega (arith, s.for_rows);
      for_cells = s.for_cells;
      count = s.count + 1;
      fours = omega (arith, s.fours);
      for_points = omega (arith, long, pointed_code p, values_length q.values, pointed_components m p h, s.for_points);
    }

-- ## Behind some lines

pub record Delivers (m : Model) (n : ℕ) (x : Place) (used : List (List ℕ)) (cells points : ℕ) : Type 0 where
  pub sound : Sound m x
  pub spends : Spends m n used cells points

pub reached_spends : {m : Model} {ls : List Line} {x : Place} {used : List (List ℕ)} {cells points : ℕ} → GoodModel m → Reached m ls x used cells points
    → Delivers m (bytes_in ls) x used cells points
unfolding bytes_in
reached_spends good reasons.Reached.none = record { sound = tt; spends = record { for_rows = omega arith; for_cells = omega arith; count = 0; fours = refl; for_points = omega arith } }
reached_spends good (reasons.Reached.more {ls = ls} {l = l} r f) =
    let d = reached_spends good r in
    record { sound = follows_sound _ good f d.sound; spends = rw (bytes_behind ls l) (follows_spends f d.sound d.spends) }
