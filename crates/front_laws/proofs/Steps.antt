-- What holds of all places of a form holds of those of what a step makes of it: what the step writes has the form's own place, and what it
-- takes over keeps its places.
use Rattle.std.specs.Prelude.{ℕ, List}
use Rattle.std.proofs.Common.{sym, subst}
use Rattle.base.specs.declared.place.Place.{Place}
use Rattle.base.specs.Data.{Item, item, Items, no_item, item_and, place_of}
use Rattle.lang_derived.specs.Pieces.{Piece, word, made, taken, parens, Pieces, no_piece, piece_and, in_parens, Builds, BuildsAll}
use Rattle.lang_derived.specs.Derived.{Derives}
use Rattle.lang_derived.specs.Ends.{AllFurther, AllFurtherIn}
use Rattle.lang_derived.proofs.Parts.{GoesDown, goes_down}
use Rattle.lang_derived.proofs.Derivations.{OfDerivation}
use Rattle.lang_derived.proofs.Further.{arguments_too, derivation_further}
use Rattle.front_laws.proofs.AllPlaces.{AllPlaces, AllPlacesAmong}
use Rattle.front_laws.proofs.Parts.{its_place, its_parts}

module _ (P : Place → Type 0) where
  -- it holds of all places of a part that is taken over
  abbrev OnTaken : Piece → Type 0
  OnTaken (word text) = Unit {0}
  OnTaken (made serial) = Unit {0}
  OnTaken (taken d) = AllPlaces P d
  OnTaken (parens xs) = Unit {0}

  in_parens_too : (p : Place) (ds : Items) → P p → AllPlacesAmong P ds → AllPlaces P (item p (in_parens ds))
  unfolding AllPlaces
  in_parens_too p no_item q g = (q, tt)
  in_parens_too p (item_and d ds) q g = (q, (g, tt))

  mutual
    unfolding Builds AllPlaces

    builds_too : (names : List (List ℕ)) (p : Place) → P p → (x : Piece) (d : Item) → Builds names p x d → AllFurther OnTaken x → AllPlaces P d
    builds_too names p q (word text) d b h = subst (AllPlaces P) (sym b.1.1) (q, tt)
    builds_too names p q (made serial) d b h = subst (AllPlaces P) (sym b) (q, tt)
    builds_too names p q (taken e) d b h = subst (AllPlaces P) (sym b) h
    builds_too names p q (parens xs) d b h = subst (AllPlaces P) (sym b.1.1) (in_parens_too p b.0 q (all_built_too names p q xs b.0 b.1.0 h.1))

    all_built_too : (names : List (List ℕ)) (p : Place) → P p → (xs : Pieces) (ds : Items) → BuildsAll names p xs ds → AllFurtherIn OnTaken xs → AllPlacesAmong P ds
    all_built_too names p q no_piece ds b h = let Q : Items → Type 0 = AllPlacesAmong P in subst Q (sym b) tt
    all_built_too names p q (piece_and x xs) ds b h =
        let Q : Items → Type 0 = AllPlacesAmong P in
        subst Q (sym b.1.1.2) (builds_too names p q x b.0 b.1.1.0 h.0, all_built_too names p q xs b.1.0 b.1.1.1 h.1)

  down : GoesDown (AllPlaces P)
  down = goes_down (AllPlaces P) (its_parts P)

  pub step_too : (names : List (List ℕ)) (d : Item) (s : ℕ) (e : Item) (s2 : ℕ) → AllPlaces P d → Derives names d s e s2 → AllPlaces P e
  step_too names d s e s2 g x =
      builds_too names (place_of d) (its_place P d g) x.right.piece e x.builds
      (subst (OfDerivation (AllFurther OnTaken)) x.fits (derivation_further OnTaken down names s d (arguments_too OnTaken down d g (λ xs less. tt))))
