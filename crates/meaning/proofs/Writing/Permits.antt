-- The lines that are written of a table that is fine hold permitted bytes only. Assumes nothing.
use Prim.Native.Nat.{ℕ, zero, suc, ◌+◌, ◌-◌, ◌≤◌}
use native.Mathlib.Omega.{arith}
use mathlib.Core.Path.{◌≡◌, refl, sym, ap}
use mathlib.Core.Bool.{Bool, true, false, not, ◌&&◌, ◌||◌, or-true, true≢false}
use mathlib.Core.List.{List, [], ◌∷◌, ◌++◌}
use lib.Dec.{eqb, leb, ltb}
use lib.IntN.{ℤ, pos, nat_abs}
use lib.ListN.{length, take, drop, get_or-eq_default}
use borrow.Author.Tests.{eqb-true, leb-true, le-leb, ltb-true, ltb-false}
use Rattle.meaning.specs.Bytes.{choose, permitted, digit, letter, text_byte, every, all_permitted}
use Rattle.meaning.specs.Cut.{Permitted}
use Rattle.meaning.specs.Model.{Component, AttributeType, Reference, Coordinate, Number, Text, Date, Enumeration, Line, missing, target_of, Model, table_at, no_table}
use Rattle.meaning.specs.Check.{special, name_byte, is_name, good_names, GoodModel}
use Rattle.meaning.specs.Value.{is_identification}
use Rattle.meaning.specs.Digits.{last_digits, digits_of, sign_of, pointed, number_bytes, date_bytes}
use Rattle.meaning.specs.Row.{Pair, pairs_of}
use Rattle.meaning.specs.Reading.{LineAttribute, Content}
use Rattle.meaning.specs.Writing.{identification_bytes, type_bytes, field_bytes, pair_fields, point_code, point_fields, point_lines, attribute_lines, object_lines, field_lines, spaced, line_bytes, lines_bytes, lines_of}
use Rattle.meaning.specs.Readback.{is_text}
use Rattle.meaning.proofs.Tests.Unequal.{no_found}
use Rattle.meaning.proofs.Tests.Refuse.{both, holds, choose_keeps}
use Rattle.meaning.proofs.Values.Digits.{every_append, every_kind, every_take, every_drop, last_digits_lem, short_digits}
use Rattle.meaning.proofs.Judge.Valid.{RowOk, done, absent, plain, word, name, without, along, no_line, line, ObjectOk, Place, topics_from, tables_from, objects, Rest, finished, topic_out, topic_in, topic_end, table_out, table_in, object, table_end, Valid}
use Rattle.meaning.proofs.Writing.Rows.{word_bytes, name_bytes}
use Rattle.meaning.proofs.Model.GoodPairs.{table_name}
use Rattle.meaning.proofs.Writing.Tables.{lines_at, last_lines_lem, topic_out_lines, topic_in_lines, topic_end_lines, table_out_lines, table_in_lines, object_lines_lem, table_end_lines}

-- ## Kinds of bytes that are permitted

in_range : (b : ℕ) → 0x20 ≤ b → b ≤ 0x7e → permitted b ≡ true
unfolding permitted
in_range b low high = rw (le-leb 0x20 b low, le-leb b 0x7e high) (or-true (eqb b 0x09))

high_range : (b : ℕ) → 0xa0 ≤ b → b ≤ 0xff → permitted b ≡ true
unfolding permitted
high_range b low high = rw (le-leb 0xa0 b low, le-leb b 0xff high) (rw (or-true (leb 0x20 b && leb b 0x7e)) (or-true (eqb b 0x09)))

digit_permitted : (b : ℕ) → digit b ≡ true → permitted b ≡ true
unfolding digit
digit_permitted b h = let r = both (leb 0x30 b) (leb b 0x39) h in let low = leb-true 0x30 b r.0 in let high = leb-true b 0x39 r.1 in in_range b (omega arith) (omega arith)

either : (a b : Bool) (P : Type 0) → (a || b) ≡ true → (a ≡ true → P) → (b ≡ true → P) → P
either true b P h f g = f refl
either false b P h f g = g h

text_permitted : (b : ℕ) → text_byte b ≡ true → permitted b ≡ true
unfolding text_byte
text_permitted b h =
    either (leb 0x21 b && leb b 0x7e) _ (permitted b ≡ true) h
    (λ p. let r = both (leb 0x21 b) _ p in let low = leb-true 0x21 b r.0 in in_range b (omega arith) (leb-true b 0x7e r.1))
    (λ p.
    let r = both (leb 0xc0 b && leb b 0xff && not (eqb b 0xd7)) _ p in
    let q = both (leb 0xc0 b && leb b 0xff) _ r.0 in
    let s = both (leb 0xc0 b) _ q.0 in
    let low = leb-true 0xc0 b s.0 in
    high_range b (omega arith) (leb-true b 0xff s.1))

letter_permitted : (b : ℕ) → letter b ≡ true → permitted b ≡ true
unfolding letter
letter_permitted b h =
    either (leb 0x41 b && leb b 0x5a) _ (permitted b ≡ true) h
    (λ p. let r = both (leb 0x41 b) _ p in let low = leb-true 0x41 b r.0 in let high = leb-true b 0x5a r.1 in in_range b (omega arith) (omega arith))
    (λ p. let r = both (leb 0x61 b) _ p in let low = leb-true 0x61 b r.0 in let high = leb-true b 0x7a r.1 in in_range b (omega arith) (omega arith))

name_permitted : (b : ℕ) → name_byte b ≡ true → permitted b ≡ true
unfolding name_byte
name_permitted b h =
    either (letter b || digit b) (eqb b 0x5f) (permitted b ≡ true) h
    (λ p. either (letter b) (digit b) (permitted b ≡ true) p (letter_permitted b) (digit_permitted b))
    (λ p. let e = eqb-true b 0x5f p in in_range b (omega arith) (omega arith))

special_permitted : (u : ℕ) → special u ≡ true → permitted u ≡ true
unfolding special
special_permitted u h = let low = leb-true 0x21 u (holds _ 0 h) in in_range u (omega arith) (leb-true u 0x7e (holds _ 1 h))

pub name_permits : (longest : ℕ) (s : List ℕ) → is_name longest s ≡ true → all_permitted s ≡ true
unfolding is_name
name_permits longest s h = every_kind name_byte permitted name_permitted s (both (letter _) (every name_byte s) (both (letter _ && every name_byte s) _ h).0).1

-- ## Numerals

digits_permit : (least n : ℕ) → all_permitted (digits_of least n) ≡ true
unfolding digits_of
digits_permit least n = every_kind digit permitted digit_permitted _ (short_digits least (last_digits 19 n) (last_digits_lem 19 n))

sign_permits : (v : ℤ) → all_permitted (sign_of v) ≡ true
unfolding sign_of every permitted
sign_permits v = choose_keeps (λ (l : List ℕ). every permitted l ≡ true) _ (0x2d ∷ []) [] (λ _. refl) (λ _. refl)

pointed_permits : (d : ℕ) (s : List ℕ) → all_permitted s ≡ true → all_permitted (pointed d s) ≡ true
unfolding pointed every permitted
pointed_permits zero s h = h
pointed_permits (suc d) s h = every_append permitted (take (length s - suc d) s) _ (every_take permitted (length s - suc d) s h) (every_drop permitted (length s - suc d) s h)

pub number_permits : (d : ℕ) (v : ℤ) → all_permitted (number_bytes d v) ≡ true
unfolding number_bytes
number_permits d v = every_append permitted (sign_of v) _ (sign_permits v) (pointed_permits d _ (digits_permit (d + 1) (nat_abs v)))

date_permits : (v : ℤ) → all_permitted (date_bytes v) ≡ true
unfolding date_bytes
date_permits v = every_append permitted (sign_of v) _ (sign_permits v) (digits_permit 8 (nat_abs v))

-- ## Fields and lines

abbrev pub FieldsPermit : List (List ℕ) → Type 0
FieldsPermit [] = Unit {0}
FieldsPermit (f ∷ fs) = (all_permitted f ≡ true) × FieldsPermit fs

abbrev LinesPermit : List (List (List ℕ)) → Type 0
LinesPermit [] = Unit {0}
LinesPermit (k ∷ ks) = FieldsPermit k × LinesPermit ks

spaced_permits : (fs : List (List ℕ)) → FieldsPermit fs → all_permitted (spaced fs) ≡ true
unfolding spaced every permitted
spaced_permits [] h = refl
spaced_permits (f ∷ fs) h = every_append permitted f (spaced fs) h.0 (spaced_permits fs h.1)

pub line_permits : (k : List (List ℕ)) → FieldsPermit k → all_permitted (line_bytes k) ≡ true
unfolding line_bytes every
line_permits [] h = refl
line_permits (f ∷ fs) h = every_append permitted f (spaced fs) h.0 (spaced_permits fs h.1)

pub lines_permitted : (ks : List (List (List ℕ))) → LinesPermit ks → Permitted (lines_bytes ks)
unfolding lines_bytes
lines_permitted [] h = tt
lines_permitted (k ∷ ks) h = (line_permits k h.0, lines_permitted ks h.1)

lines_append : (ks ls : List (List (List ℕ))) → LinesPermit ks → LinesPermit ls → LinesPermit (ks ++ ls)
lines_append [] ls h g = g
lines_append (k ∷ ks) ls h g = (h.0, lines_append ks ls h.1 g)

-- ## Points and line attributes

code_permits : (kind : ℤ) → all_permitted (point_code kind) ≡ true
unfolding point_code every permitted
code_permits kind = choose_keeps (λ (l : List ℕ). every permitted l ≡ true) _ _ _ (λ _. refl) (λ _. choose_keeps (λ (l : List ℕ). every permitted l ≡ true) _ _ _ (λ _. refl) (λ _. refl))

values_permit : (ks : List Component) (values : List ℤ) → FieldsPermit (point_fields ks values)
unfolding point_fields
values_permit [] values = tt
values_permit (k ∷ ks) values = (number_permits k.decimals _, values_permit ks (drop 1 values))

points_permit : (ks : List Component) (n : ℕ) (points : List ℤ) → LinesPermit (point_lines ks n points)
unfolding point_lines
points_permit ks zero points = tt
points_permit ks (suc n) points = ((code_permits _, values_permit ks (drop 1 points)), points_permit ks n (drop 4 points))

attributes_permit : (c : Content) (others : List LineAttribute) → LinesPermit (attribute_lines c others)
unfolding attribute_lines every permitted
attributes_permit c [] = tt
attributes_permit c (a ∷ others) = lines_append (point_lines a.components _ _) _ (points_permit a.components _ _) ((refl, tt), attributes_permit c others)

-- ## Rows

plain_permits : (text : List ℕ) (c : Content) (type : AttributeType) (a b : ℤ) → is_text type ≡ false → target_of type ≡ missing → all_permitted (type_bytes text c type a b) ≡ true
unfolding is_text target_of type_bytes every
plain_permits text c (Reference t) a b h g = absurd (no_found t (sym g))
plain_permits text c (Coordinate ks) a b h g = refl
plain_permits text c (Number x) a b h g = number_permits x.decimals b
plain_permits text c (Text longest) a b h g = absurd (true≢false h)
plain_permits text c Date a b h g = date_permits b
plain_permits text c (Enumeration leaves) a b h g = number_permits 0 b
plain_permits text c (Line forms ks) a b h g = refl

module _ (u : ℕ) (text : List ℕ) (c : Content) (su : special u ≡ true) where
  undefined_permits : all_permitted (u ∷ []) ≡ true
  unfolding every
  undefined_permits = rw (special_permitted u su)

  field_permits : (a : ℤ) (f : List ℕ) → all_permitted f ≡ true → all_permitted (field_bytes u a f) ≡ true
  unfolding field_bytes
  field_permits a f h = choose_keeps (λ (l : List ℕ). all_permitted l ≡ true) _ _ _ (λ _. undefined_permits) (λ _. h)

  row_permits : {before : Bool} {k k' : ℕ} {ps : List Pair} {cs : List ℤ} → RowOk u text c before k ps cs k' → FieldsPermit (pair_fields u text c ps cs)
  unfolding pair_fields is_identification field_bytes choose
  row_permits done = tt
  row_permits (absent r) = (undefined_permits, row_permits r)
  row_permits (plain {type = type} {a = a} {b = b} h g z d v r) = (field_permits a _ (plain_permits text c type a b h g), row_permits r)
  row_permits (word {longest = longest} {b = b} f d e l s r) =
      (field_permits (pos (1 + length f)) _ (rw (word_bytes text c longest b f s) (every_kind text_byte permitted text_permitted f e)), row_permits r)
  row_permits (name {target = target} {n = n} f d e s g r) = (field_permits (pos 1) _ (rw (name_bytes text c target n f s) (every_kind text_byte permitted text_permitted f e)), row_permits r)
  row_permits (without r) = (undefined_permits, row_permits r)
  row_permits (along {x = x} {b = b} w r) = (number_permits x.decimals b, row_permits r)
  row_permits (no_line r) = row_permits r
  row_permits (line n l q r) = row_permits r

-- the names of the topics that are left at a place
abbrev names_at : Place → List (List ℕ)
names_at (topics_from from p names) = names
names_at (tables_from p from n ts names) = names
names_at (objects p t ts names) = names

topics_permit : (names : List (List ℕ)) → good_names names ≡ true → FieldsPermit names
unfolding good_names
topics_permit [] h = tt
topics_permit (n ∷ names) h = (name_permits 24 n (holds _ 0 h), topics_permit names (holds _ 2 h))

module _ (m : Model) (good : GoodModel m) (text : List ℕ) (c : Content) where
  object_permits : {t : ℕ} {before : List ℕ} {at k k' : ℕ} → ObjectOk m text c t before at k k' → LinesPermit (object_lines m text c (pairs_of (table_at m.tables t).attributes) at)
  unfolding object_lines is_identification every permitted
  object_permits {at = at} o =
      ((refl, (every_kind text_byte permitted text_permitted (identification_bytes text c.cells at) o.identification.shape, row_permits m.undefined text c good.undefined o.row)), attributes_permit c _)

  table_permits : (n : ℕ) → all_permitted (table_at m.tables n).name ≡ true
  unfolding every
  table_permits n = by (ltb n (length m.tables)) refl
    where
      by : (x : Bool) → ltb n (length m.tables) ≡ x → all_permitted (table_at m.tables n).name ≡ true
      by true e = name_permits 24 _ (table_name m.tables n (ltb-true n (length m.tables) e) (good.names_in_topic (table_at m.tables n).topic))
      by false e = rw (get_or-eq_default m.tables no_table {n = n} (ltb-false n (length m.tables) e))

  rest_permits : {place : Place} {marks before : List ℕ} {at k : ℕ} {rows : List ℕ} → FieldsPermit (names_at place) → Rest m text c place marks before at k rows → LinesPermit (lines_at m text c place rows)
  unfolding every permitted
  rest_permits h (finished {from = from} {p = p} e₁ e₂ e₃ e₄) = rw (← (last_lines_lem m text c from p)) ((refl, tt), ((refl, tt), tt))
  rest_permits h (topic_out {from = from} {p = p} {name = n} {names = names} {rows = rows} e r) = rw (topic_out_lines m text c from p n names rows e) (rest_permits h.1 r)
  rest_permits h (topic_in {from = from} {p = p} {name = n} {names = names} {rows = rows} e s f r) =
      rw (topic_in_lines m text c from p n names rows e) ((refl, (h.0, tt)), rest_permits h.1 r)
  rest_permits h (topic_end {p = p} {from = from} {n = n} {names = names} {rows = rows} g e r) = rw (topic_end_lines m text c p from n names rows e) ((refl, tt), rest_permits h r)
  rest_permits h (table_out {p = p} {from = from} {n = n} {table = table} {ts = ts} {names = names} {rows = rows} e r) =
      rw (table_out_lines m text c p from n table ts names rows e) (rest_permits h r)
  rest_permits h (table_in {p = p} {from = from} {n = n} {table = table} {ts = ts} {names = names} {rows = rows} e here s f g r) =
      let permits : all_permitted table.name ≡ true = rw here at (table_permits n) in
      rw (table_in_lines m text c p from n table ts names rows e here) ((refl, (permits, tt)), rest_permits h r)
  rest_permits h (object {p = p} {t = t} {at = at} {ts = ts} {names = names} {rows = rows} o topic r) =
      rw (object_lines_lem m text c p t ts names at rows (ap nat_abs o.table) topic) (lines_append (object_lines m text c (pairs_of (table_at m.tables t).attributes) at) _ (object_permits o) (rest_permits h r))
  rest_permits h (table_end {p = p} {t = t} {ts = ts} {names = names} {rows = rows} topic none behind r) =
      rw (table_end_lines m text c p t ts names rows none behind) ((refl, tt), rest_permits h r)

  -- the lines of a table that is fine
  pub valid_permits : Valid m text c → Permitted (lines_of m text c)
  unfolding lines_of field_lines lines_at every permitted
  valid_permits v =
      lines_permitted (field_lines m text c)
      ((refl, tt), ((refl, tt), ((refl, (name_permits 63 m.transfer good.transfer, tt)), ((refl, (name_permits 63 m.name good.name, tt)), rest_permits (topics_permit m.topics good.topics) v))))
