-- In which parts of a form it is asked whether it looks at the site.
use Rattle.std.specs.Prelude.{◌≡◌, ◌+◌, true, false, ◌||◌}
use Rattle.flat_language.specs.FlatForm.{FlatForm, form_size, forms_size, clauses_size, bindings_size, dynamics_size}
use Rattle.flat_language.specs.model.View.{forms, clauses_of, bindings_of, dynamics_of}
use Rattle.back_lowering.specs.Sites.{asks_site, forms_ask, clauses_ask, bindings_ask, dynamics_ask}
use Rattle.back_tables.specs.declared.asking.Asking.{Asking}
use Rattle.back_tables.specs.declared.asking.Asking.TheVariants as asking

-- and as large as these parts together, and one more
abbrev pub IsAsking : FlatForm → Asking → Type 0
IsAsking f asking.Yes = asks_site f ≡ true
IsAsking f asking.No = asks_site f ≡ false
IsAsking f (asking.One inner) = (form_size f ≡ form_size inner.now + 1) × (asks_site f ≡ asks_site inner.now)
IsAsking f (asking.Either first second) =
    (form_size f ≡ form_size first.now + form_size second.now + 1) × (asks_site f ≡ (asks_site first.now || asks_site second.now))
IsAsking f (asking.Forms list) = (form_size f ≡ forms_size (forms list.now) + 1) × (asks_site f ≡ forms_ask (forms list.now))
IsAsking f (asking.Clauses list) = (form_size f ≡ clauses_size (clauses_of list.now) + 1) × (asks_site f ≡ clauses_ask (clauses_of list.now))
IsAsking f (asking.Let list body) =
    (form_size f ≡ bindings_size (bindings_of list.now) + form_size body.now + 1)
    × (asks_site f ≡ (bindings_ask (bindings_of list.now) || asks_site body.now))
IsAsking f (asking.DynamicLet list body) =
    (form_size f ≡ dynamics_size (dynamics_of list.now) + form_size body.now + 1)
    × (asks_site f ≡ (dynamics_ask (dynamics_of list.now) || asks_site body.now))
