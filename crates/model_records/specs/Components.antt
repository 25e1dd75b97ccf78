-- What the structs of this crate mean: a component, and the list of an attribute's components.
use Rattle.std.specs.Prelude.{List, [], ◌∷◌, take}
use Rattle.meaning.specs.Model as meaning
use Rattle.model_records.specs.declared.attributes.Component.{Component}
use Rattle.model_records.specs.declared.attributes.Components.{Components}

abbrev pub component_of : Component → meaning.Component
component_of c = record { decimals = c.decimals; least = c.least; greatest = c.greatest }

unfoldable pub list_of : List Component → List meaning.Component
list_of [] = []
list_of (c ∷ cs) = component_of c ∷ list_of cs

abbrev pub components_of : Components → List meaning.Component
components_of c = list_of (take c.count c.items)

-- a component of the model as the struct holds it
abbrev pub declared_of : meaning.Component → Component
declared_of c = record { decimals = c.decimals; least = c.least; greatest = c.greatest }
