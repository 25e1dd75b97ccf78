-- Whether each of some components is good, as the library's `all` says it. Assumes nothing.
use mathlib.Core.Path.{◌≡◌, refl, ap}
use mathlib.Core.List.{List, [], ◌∷◌}
use mathlib.Core.Bool.{Bool, ◌&&◌}
use Rattle.std.specs.List.{list_all}
use Rattle.meaning.specs.Check.{good_component, good_components}
use Rattle.model_records.specs.Components.{component_of, list_of}
use Rattle.model_records.specs.declared.attributes.Component.{Component}

pub good_all : (cs : List Component) → list_all (λ c. good_component (component_of c)) cs ≡ good_components (list_of cs)
unfolding good_components list_of
good_all [] = refl
good_all (c ∷ cs) = ap (λ (t : Bool). good_component (component_of c) && t) (good_all cs)
