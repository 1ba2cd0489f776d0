-- The size and the depth of the data that are taken.
use Rattle.std.proofs.Common.{◌≡◌, ℕ, ◌+◌, ◌≤◌, max, List, refl, arith}
use Rattle.base.specs.declared.place.Place.{Place}
use Rattle.base.specs.Data.{Item, Items, Tail}
use Rattle.base.specs.DataMeasures.{size_of, sizes_of, size_of_tail, depth_of, depths_of, depth_of_tail}
use Rattle.lang_meaning.specs.Values.{Value}
use Rattle.lang_meaning.specs.Objects.{Object}
use Rattle.lang_taken.specs.Shapes.{Shape}
use Rattle.lang_taken.specs.Taken.{TakesShape, takes_integer, takes_character, takes_symbol, takes_string, takes_vector, takes_nil, takes_list}
use Rattle.lang_taken.specs.Taken.{TakesElements, no_element, an_element, TakesChain, at_nil, at_cons, at_dot}
use Rattle.lang_taken.specs.Laws.{IsMeasured, LawOfMeasures}

-- the size and the depth of several data, and of the parts of a list
record AreMeasured (deep left : ℕ) (ds : Items) (rest : ℕ) : Type 0 where
  size : rest + sizes_of ds ≡ left
  depth : depths_of ds ≤ deep

record ChainMeasured (deep left : ℕ) (ds : Items) (t : Tail) (rest : ℕ) : Type 0 where
  size : rest + (sizes_of ds + size_of_tail t) ≡ left
  depth : max (depths_of ds) (depth_of_tail t) ≤ deep

module _ (names : List (List ℕ)) (objects : List Object) (place : Place) (expansion : ℕ) where
  mutual
    unfolding size_of depth_of

    pub measured :
        (deep left : ℕ) (s : Shape) (d : Item) (rest : ℕ) → TakesShape names objects place expansion deep left s d rest → IsMeasured place deep left d rest
    measured deep left s d rest (takes_integer _ _ n range) = record { size = omega arith; depth = omega arith; place_is = refl }
    measured deep left s d rest (takes_character _ _ c small) = record { size = omega arith; depth = omega arith; place_is = refl }
    measured deep left s d rest (takes_symbol _ _ _ one is) = record { size = omega arith; depth = omega arith; place_is = refl }
    measured deep left s d rest (takes_string _ inside _ bytes all enough) = record { size = omega (arith, enough); depth = omega arith; place_is = refl }
    measured deep left s d rest (takes_vector below inside _ vs ds parts) =
        let m = elements_measured below inside vs ds rest parts in record { size = omega (arith, m.size); depth = omega (arith, m.depth); place_is = refl }
    measured deep left s d rest (takes_nil _ _) = record { size = omega arith; depth = omega arith; place_is = refl }
    measured deep left s d rest (takes_list below inside _ car cdr ds t parts) =
        let m = chain_measured below inside _ ds t rest parts in record { size = omega (arith, m.size); depth = omega (arith, m.depth); place_is = refl }

    elements_measured :
        (deep left : ℕ) (vs : List Value) (ds : Items) (rest : ℕ) → TakesElements names objects place expansion deep left vs ds rest → AreMeasured deep left ds rest
    elements_measured deep left vs ds rest (no_element _ _) = record { size = omega arith; depth = omega arith }
    elements_measured deep left vs ds rest (an_element _ _ middle _ v others d others_taken first further) =
        let m = measured deep left _ d middle first in
        let n = elements_measured deep middle others others_taken rest further in
        record { size = omega (arith, m.size, n.size); depth = omega (arith, m.depth, n.depth) }

    chain_measured :
        (deep left : ℕ) (s : Shape) (ds : Items) (t : Tail) (rest : ℕ) → TakesChain names objects place expansion deep left s ds t rest
        → ChainMeasured deep left ds t rest
    chain_measured deep left s ds t rest (at_nil _ _) = record { size = omega arith; depth = omega arith }
    chain_measured deep left s ds t rest (at_cons _ _ middle _ car cdr d others _ first further) =
        let m = measured deep left _ d middle first in
        let n = chain_measured deep middle _ others t rest further in
        record { size = omega (arith, m.size, n.size); depth = omega (arith, m.depth, n.depth) }
    chain_measured deep left s ds t rest (at_dot _ _ _ _ d end taken) =
        let m = measured deep left s d rest taken in record { size = omega (arith, m.size); depth = omega (arith, m.depth) }

pub law_of_measures : LawOfMeasures
law_of_measures names objects place expansion deep left v d rest taken = measured names objects place expansion deep left _ d rest taken
