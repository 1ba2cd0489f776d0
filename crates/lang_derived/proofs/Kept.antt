-- What a step keeps: its result is in form, its names are in the table, and a later table changes nothing.
use Rattle.std.specs.Prelude.{◌≡◌, ℕ, zero, suc, ◌+◌, ◌<◌, List, [], ◌∷◌, ◌++◌, length, Some, slice_get, refl}
use Rattle.std.proofs.Common.{arith, ◌∙◌, sym, subst}
use Rattle.base.specs.declared.place.Place.{Place}
use Rattle.base.specs.declared.datum.Symbol.{Symbol}
use Rattle.base.specs.declared.datum.Symbol.TheVariants.{Named, Fresh}
use Rattle.base.specs.Names.{Extends}
use Rattle.base.specs.Data.{Item, item, symbol, Items, no_item, item_and, place_of}
use Rattle.base.specs.DataMeasures.{Formed, AllFormed, NamesBelow, AllNamesBelow}
use Rattle.base.specs.DataNames.{names_stay, text_same}
use Rattle.base.specs.DataParts.{AllItems}
use Rattle.base.specs.WellFormedData.{formed_parts, below_parts}
use Rattle.lang_derived.specs.Pieces.{Piece, word, made, taken, parens, Pieces, no_piece, piece_and, Right, in_parens, Builds, BuildsAll}
use Rattle.lang_derived.specs.Derived.{becomes, derivation, Derives, new_symbols}
use Rattle.lang_derived.specs.declared.one_step.Step.TheVariants.{Derived}
use Rattle.lang_derived.specs.Steps.{IsStep, IsWellFormedStep}
use Rattle.lang_derived.specs.WellFormedSteps.{StepsAreWellFormed}
use Rattle.lang_derived.specs.Ends.{AllFurther, AllFurtherIn}
use Rattle.lang_derived.proofs.Parts.{GoesDown, goes_down}
use Rattle.lang_derived.proofs.Derivations.{OfDerivation}
use Rattle.lang_derived.proofs.Further.{arguments_too, derivation_further}
use Rattle.lang_derived.proofs.Same.{derivation_same}

-- it holds of a part that is taken over
abbrev OnTaken : (Item → Type 0) → Piece → Type 0
OnTaken P (word text) = Unit {0}
OnTaken P (made serial) = Unit {0}
OnTaken P (taken d) = P d
OnTaken P (parens xs) = Unit {0}

-- what is built of it

record GoesUp (n : ℕ) (P : Item → Type 0) : Type 0 where
  over_name : (p : Place) (k : ℕ) → k < n → P (item p (symbol (Named (record { 0 = k }))))
  over_fresh : (p : Place) (i : ℕ) → P (item p (symbol (Fresh 0 i)))
  over_items : (p : Place) (ds : Items) → AllItems P ds → P (item p (in_parens ds))

get_below : {X : Type 0} (xs : List X) (i : ℕ) (x : X) → slice_get xs i ≡ Some x → i < length xs
get_below [] i x h = absurd (cc)
get_below (y ∷ ys) zero x h = omega arith
get_below (y ∷ ys) (suc i) x h = omega (arith, get_below ys i x h)

mutual
  unfolding Builds

  builds_too : (P : Item → Type 0) (names : List (List ℕ)) → GoesUp (length names) P → (p : Place) (x : Piece) (d : Item)
      → Builds names p x d → AllFurther (OnTaken P) x → P d
  builds_too P names g p (word text) d b h = subst P (sym b.1.1) (g.over_name p b.0 (get_below names b.0 text b.1.0))
  builds_too P names g p (made serial) d b h = subst P (sym b) (g.over_fresh p serial)
  builds_too P names g p (taken e) d b h = subst P (sym b) h
  builds_too P names g p (parens xs) d b h = subst P (sym b.1.1) (g.over_items p b.0 (all_built_too P names g p xs b.0 b.1.0 h.1))

  all_built_too : (P : Item → Type 0) (names : List (List ℕ)) → GoesUp (length names) P → (p : Place) (xs : Pieces) (ds : Items)
      → BuildsAll names p xs ds → AllFurtherIn (OnTaken P) xs → AllItems P ds
  all_built_too P names g p no_piece ds b h = let Q : Items → Type 0 = AllItems P in subst Q (sym b) tt
  all_built_too P names g p (piece_and x xs) ds b h =
      let Q : Items → Type 0 = AllItems P in
      subst Q (sym b.1.1.2) (builds_too P names g p x b.0 b.1.1.0 h.0, all_built_too P names g p xs b.1.0 b.1.1.1 h.1)

step_too : (P : Item → Type 0) → GoesDown P → (names : List (List ℕ)) → GoesUp (length names) P → (d : Item) (s : ℕ) (e : Item) (s2 : ℕ)
    → P d → Derives names d s e s2 → P e
step_too P down names up d s e s2 h x =
    builds_too P names up (place_of d) x.right.piece e x.builds
    (subst (OfDerivation (AllFurther (OnTaken P))) x.fits (derivation_further (OnTaken P) down names s d (arguments_too (OnTaken P) down d h (λ xs less. tt))))

-- data in form

formed_all : (ds : Items) → AllItems Formed ds → AllFormed ds
unfolding Formed
formed_all no_item h = tt
formed_all (item_and d ds) h = (h.0, formed_all ds h.1)

formed_down : GoesDown Formed
formed_down = goes_down Formed formed_parts

formed_over : (p : Place) (ds : Items) → AllItems Formed ds → Formed (item p (in_parens ds))
unfolding Formed
formed_over p no_item h = tt
formed_over p (item_and d ds) h = (λ e. absurd (cc), formed_all (item_and d ds) h, tt)

formed_up : (n : ℕ) → GoesUp n Formed
unfolding Formed
formed_up n = record { over_name = λ p k h. tt; over_fresh = λ p i. tt; over_items = formed_over }

step_formed : (names : List (List ℕ)) (d : Item) (s : ℕ) (e : Item) (s2 : ℕ) → Formed d → Derives names d s e s2 → Formed e
step_formed names d s e s2 h x = step_too Formed formed_down names (formed_up (length names)) d s e s2 h x

-- names of the table

below_all : (n : ℕ) (ds : Items) → AllItems (NamesBelow n) ds → AllNamesBelow n ds
unfolding NamesBelow
below_all n no_item h = tt
below_all n (item_and d ds) h = (h.0, below_all n ds h.1)

below_down : (n : ℕ) → GoesDown (NamesBelow n)
below_down n = goes_down (NamesBelow n) (below_parts n)

below_over : (n : ℕ) (p : Place) (ds : Items) → AllItems (NamesBelow n) ds → NamesBelow n (item p (in_parens ds))
unfolding NamesBelow
below_over n p no_item h = tt
below_over n p (item_and d ds) h = (below_all n (item_and d ds) h, tt)

below_up : (n : ℕ) → GoesUp n (NamesBelow n)
unfolding NamesBelow
below_up n = record { over_name = λ p k h. h; over_fresh = λ p i. tt; over_items = below_over n }

step_named : (names : List (List ℕ)) (d : Item) (s : ℕ) (e : Item) (s2 : ℕ) → NamesBelow (length names) d → Derives names d s e s2
    → NamesBelow (length names) e
step_named names d s e s2 h x =
    step_too (NamesBelow (length names)) (below_down (length names)) names (below_up (length names)) d s e s2 h x

pub step_good : StepsAreWellFormed
step_good names d s e s2 g x = record { formed = step_formed names d s e s2 g.formed x; named = step_named names d s e s2 g.named x }

-- a later table

-- what the table says of a datum stays under a later table of names
pub derivation_later : (old new : List (List ℕ)) (s : ℕ) (d : Item) → Extends old new → NamesBelow (length old) d
    → derivation old s d ≡ derivation new s d
derivation_later old new s d e h =
    derivation_same old new (NamesBelow (length old)) (record { down = below_down (length old); same = text_same old new e }) s d h

-- a step that is taken, under the names that there are afterwards
pub step_taken : (old new : List (List ℕ)) (d e : Item) (p : Place) (fresh after : List Symbol) (r : Right)
    → Extends old new → NamesBelow (length old) d → becomes r ≡ derivation old (length fresh) d → p ≡ place_of d → Builds new p r.piece e
    → after ≡ fresh ++ new_symbols (length fresh) r.count
    → IsStep new d fresh (Derived e) after
step_taken old new d e p fresh after r later below fits place builds appended =
    let P : Place → Type 0 = λ q. Builds new q r.piece e in (
      r.count,
      (
        record {
          right = r;
          fits = sym (derivation_later old new (length fresh) d later below) ∙ sym fits;
          builds = subst P place builds;
          serials = refl;
        },
        appended,
      ),
    )

-- what it gives is in form, and its names are in the table
pub step_whole : (old new : List (List ℕ)) (d e : Item) (fresh after : List Symbol) → Extends old new → Formed d → NamesBelow (length old) d
    → IsStep new d fresh (Derived e) after → IsWellFormedStep (length new) (Derived e)
step_whole old new d e fresh after later formed below h = (
  step_formed new d (length fresh) e (length fresh + h.0) formed h.1.0,
  step_named new d (length fresh) e (length fresh + h.0) (names_stay old new d later below) h.1.0,
)
