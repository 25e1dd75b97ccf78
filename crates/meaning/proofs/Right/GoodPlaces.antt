-- The places that lines come to under a good model: the line attributes that are due there have good components. Assumes nothing.
use Prim.Native.Nat.{ℕ}
use mathlib.Core.Path.{◌≡◌}
use mathlib.Core.Bool.{true}
use mathlib.Core.List.{List, [], ◌∷◌}
use Rattle.meaning.specs.Model.{Model}
use Rattle.meaning.specs.Check.{good_components, GoodModel}
use Rattle.meaning.specs.Row.{Pair, OfAttribute, OfComponent, OfLine}
use Rattle.meaning.specs.Right.{Line}
use Rattle.meaning.specs.Reasons.{Place, start, in_description, before_transfer, before_model, topics_from, tables_from, objects_in, line_in, before_end, end, behind_pair, Bare, Titled, Gain, Follows, Reached}
use Rattle.meaning.specs.Reasons as reasons
use Rattle.meaning.proofs.Model.GoodPairs.{pairs_good}
use Rattle.meaning.proofs.Reading.RowsRead.{PairsGood}

-- the components of the line attributes that are due are good
abbrev pub GoodPlace : Place → Type 0
GoodPlace start = Unit {0}
GoodPlace in_description = Unit {0}
GoodPlace before_transfer = Unit {0}
GoodPlace before_model = Unit {0}
GoodPlace (topics_from p) = Unit {0}
GoodPlace (tables_from p t) = Unit {0}
GoodPlace (objects_in t) = Unit {0}
GoodPlace (line_in t s o forms cs ps) = (good_components cs ≡ true) × PairsGood ps
GoodPlace before_end = Unit {0}
GoodPlace end = Unit {0}

behind_good : (t : ℕ) (ps : List Pair) → PairsGood ps → GoodPlace (behind_pair t ps)
unfolding behind_pair
behind_good t [] h = tt
behind_good t (OfAttribute o type ∷ ps) h = behind_good t ps h.1
behind_good t (OfComponent c ∷ ps) h = behind_good t ps h.1
behind_good t (OfLine o forms cs ∷ ps) h = (h.0.1, h.1)

module _ (m : Model) where
  bare_good : {x y : Place} {code : List ℕ} → Bare m x code y → GoodPlace x → GoodPlace y
  bare_good reasons.Bare.scnt h = tt
  bare_good reasons.Bare.emod h = tt
  bare_good (reasons.Bare.etop o) h = tt
  bare_good reasons.Bare.etab h = tt
  bare_good (reasons.Bare.elin {t = t} {ps = ps}) h = behind_good t ps h.1
  bare_good (reasons.Bare.undrawn {t = t} {ps = ps}) h = behind_good t ps h.1
  bare_good reasons.Bare.ende h = tt

  titled_good : {x y : Place} {code name : List ℕ} → Titled m x code name y → GoodPlace y
  titled_good reasons.Titled.mtid = tt
  titled_good reasons.Titled.modl = tt
  titled_good (reasons.Titled.topi q) = tt
  titled_good (reasons.Titled.tabl q o) = tt

  follows_good : GoodModel m → {used : List (List ℕ)} {x y : Place} {l : Line} {g : Gain} → Follows m used x l y g → GoodPlace x → GoodPlace y
  follows_good good (reasons.Follows.bare b c) h = bare_good b h
  follows_good good (reasons.Follows.titled t c) h = titled_good t
  follows_good good (reasons.Follows.described p) h = tt
  follows_good good (reasons.Follows.divided p c) h = tt
  follows_good good (reasons.Follows.obje {t = t} c i n r) h = behind_good t _ (pairs_good m good t)
  follows_good good (reasons.Follows.pointed reasons.Pointed.stpt q) h = h
  follows_good good (reasons.Follows.pointed (reasons.Pointed.straight d s) q) h = h
  follows_good good (reasons.Follows.pointed (reasons.Pointed.arc d s) q) h = h
  follows_good good (reasons.Follows.pointed reasons.Pointed.arc_end q) h = h

  pub reached_good : GoodModel m → {ls : List Line} {x : Place} {used : List (List ℕ)} {cells points : ℕ} → Reached m ls x used cells points → GoodPlace x
  reached_good good reasons.Reached.none = tt
  reached_good good (reasons.Reached.more r f) = follows_good good f (reached_good good r)
