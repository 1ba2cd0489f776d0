-- All parts of what a call of a macro expands to have the place of the call, so what holds of that holds of all their places.
use Rattle.std.specs.Prelude.{ℕ, List}
use Rattle.base.specs.declared.place.Place.{Place}
use Rattle.base.specs.Data.{Item, Items, Tail, place_of}
use Rattle.lang_meaning.specs.Objects.{Object}
use Rattle.lang_meaning.specs.Values.{Value}
use Rattle.lang_taken.specs.Shapes.{Shape}
use Rattle.lang_taken.specs.Taken.{TakesShape, takes_integer, takes_character, takes_symbol, takes_string, takes_vector, takes_nil, takes_list, TakesElements, no_element, an_element, TakesChain, at_nil, at_cons, at_dot}
use Rattle.front_profile.specs.declared.tables.Tables.{Tables}
use Rattle.front_profile.specs.Expansions.{Expands}
use Rattle.front_laws.proofs.AllPlaces.{AllPlaces, AllPlacesAmong, AllPlacesBehind}

module _ (P : Place → Type 0) where
  module _ (names : List (List ℕ)) (objects : List Object) (place : Place) (expansion : ℕ) (q : P place) where
    mutual
      unfolding AllPlaces

      shape_too : (deep left : ℕ) (s : Shape) (d : Item) (rest : ℕ) → TakesShape names objects place expansion deep left s d rest → AllPlaces P d
      shape_too deep left s d rest (takes_integer _ _ n range) = (q, tt)
      shape_too deep left s d rest (takes_character _ _ c small) = (q, tt)
      shape_too deep left s d rest (takes_symbol _ _ _ one is) = (q, tt)
      shape_too deep left s d rest (takes_string _ _ _ bytes all enough) = (q, tt)
      shape_too deep left s d rest (takes_vector below inside _ vs ds parts) = (q, elements_too below inside vs ds rest parts)
      shape_too deep left s d rest (takes_nil _ _) = (q, tt)
      shape_too deep left s d rest (takes_list below inside _ car cdr ds t parts) = (q, chain_too below inside _ ds t rest parts)

      elements_too : (deep left : ℕ) (vs : List Value) (ds : Items) (rest : ℕ) → TakesElements names objects place expansion deep left vs ds rest → AllPlacesAmong P ds
      elements_too deep left vs ds rest (no_element _ _) = tt
      elements_too deep left vs ds rest (an_element _ _ middle _ v others d taken first further) =
          (shape_too deep left _ d middle first, elements_too deep middle others taken rest further)

      chain_too :
          (deep left : ℕ) (s : Shape) (ds : Items) (t : Tail) (rest : ℕ) → TakesChain names objects place expansion deep left s ds t rest
          → AllPlacesAmong P ds × AllPlacesBehind P t
      chain_too deep left s ds t rest (at_nil _ _) = (tt, tt)
      chain_too deep left s ds t rest (at_cons _ _ middle _ car cdr d others _ first further) =
          let h = chain_too deep middle _ others t rest further in
          ((shape_too deep left _ d middle first, h.0), h.1)
      chain_too deep left s ds t rest (at_dot _ _ _ _ d other taken) = (tt, shape_too deep left s d rest taken)

  pub expansion_too : (names : List (List ℕ)) (s : Tables) (m : ℕ) (d : Item) (expansion : ℕ) (e : Item) → P (place_of d) → Expands names s m d expansion e → AllPlaces P e
  expansion_too names s m d expansion e q h = shape_too h.expander.table _ (place_of d) expansion q _ _ _ e h.datum.rest h.datum.taken
