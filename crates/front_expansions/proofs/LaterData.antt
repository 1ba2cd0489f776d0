-- What a value stands for, and why it is refused, is so under a later table of names, too, and in a store in which
-- functions have other bodies.
use Rattle.std.proofs.Common.{◌≡◌, ℕ, List, Option, Some, None, refl, sym, ap, subst, ◌∙◌}
use Rattle.std.specs.Prelude.{slice_get, option_map}
use Rattle.base.specs.declared.place.Place.{Place}
use Rattle.base.specs.declared.datum.Symbol.{Symbol}
use Rattle.base.specs.declared.reason.Reason.{Reason}
use Rattle.base.specs.Data.{Item, Items, Tail}
use Rattle.base.specs.Names.{Extends, text_stays}
use Rattle.lang_meaning.specs.Objects.{Object}
use Rattle.lang_meaning.specs.Objects as object
use Rattle.lang_meaning.specs.Values.{Value}
use Rattle.lang_meaning.specs.Values as value
use Rattle.lang_renamed.specs.RenamedRuns.{object_by, store_by}
use Rattle.lang_renamed.proofs.Lists.{get_by}
use Rattle.lang_taken.specs.Shapes.{Shape, shape_of, shape_of_object}
use Rattle.lang_taken.specs.Taken.{SymbolFor, of_name, of_other_expansion, of_this_expansion, DatumOf}
use Rattle.lang_taken.specs.Taken.{greatest_size, greatest_depth}
use Rattle.lang_taken.specs.Taken.{TakesShape, takes_integer, takes_character, takes_symbol, takes_string}
use Rattle.lang_taken.specs.Taken.{takes_vector, takes_nil, takes_list}
use Rattle.lang_taken.specs.Taken.{TakesElements, no_element, an_element, TakesChain, at_nil, at_cons, at_dot}
use Rattle.lang_taken.specs.Failing.{DatumFails, FailsShape, is_no_datum, is_too_large, is_too_deep, in_vector, in_list}
use Rattle.lang_taken.specs.Failing.{FailsElements, in_element, behind_element, FailsChain, in_car, in_cdr, behind_dot}

-- a function has no shape, whatever its body
object_shape : (r : ℕ → ℕ) (o : Option Object) → shape_of_object (option_map (object_by r) o) ≡ shape_of_object o
object_shape r None = refl
object_shape r (Some (object.cons car cdr)) = refl
object_shape r (Some (object.string bytes)) = refl
object_shape r (Some (object.vector elements)) = refl
object_shape r (Some (object.instance class slots mark)) = refl
object_shape r (Some (object.function procedure)) = refl
object_shape r (Some (object.closure required rest body environment)) = refl
object_shape r (Some (object.generic_function generic)) = refl
object_shape r (Some (object.class_object class)) = refl
object_shape r (Some object.input_stream) = refl
object_shape r (Some object.output_stream) = refl
object_shape r (Some (object.fresh_symbol serial)) = refl

shape_by : (r : ℕ → ℕ) (objects : List Object) (v : Value) → shape_of (store_by r objects) v ≡ shape_of objects v
shape_by r objects (value.object i) =
    ap shape_of_object (get_by (object_by r) objects i) ∙ object_shape r (slice_get objects i)
shape_by r objects (value.integer n) = refl
shape_by r objects (value.character c) = refl
shape_by r objects (value.symbol s) = refl
shape_by r objects value.nil = refl

module _
    (old new : List (List ℕ)) (later : Extends old new) (r : ℕ → ℕ) (objects : List Object) (place : Place)
    (expansion : ℕ)
  where
    abbrev renamed : List Object
    renamed = store_by r objects

    abbrev Takes_later : (deep left : ℕ) → Shape → Item → ℕ → Type 0
    Takes_later deep left s d rest = TakesShape new renamed place expansion deep left s d rest

    abbrev Fails_later : (deep left : ℕ) → Shape → Reason → Type 0
    Fails_later deep left s r = FailsShape new renamed place expansion deep left s r

    symbol_later : (s : Shape) (one : Symbol) → SymbolFor old expansion s one → SymbolFor new expansion s one
    symbol_later s one (of_name text name at) = of_name text name (text_stays old new name.0 text later at)
    symbol_later s one (of_other_expansion other serial) = of_other_expansion other serial
    symbol_later s one (of_this_expansion serial) = of_this_expansion serial

    -- a part of that shape in the one store is one in the other
    same_part : (P : Shape → Type 0) (v : Value) → P (shape_of objects v) → P (shape_of renamed v)
    same_part P v h = subst P (sym (shape_by r objects v)) h

    mutual
      takes_later :
          (deep left : ℕ) (s : Shape) (d : Item) (rest : ℕ) → TakesShape old objects place expansion deep left s d rest
          → Takes_later deep left s d rest
      takes_later deep left s d rest (takes_integer _ _ n range) = takes_integer _ _ n range
      takes_later deep left s d rest (takes_character _ _ c small) = takes_character _ _ c small
      takes_later deep left s d rest (takes_symbol _ _ _ one is) = takes_symbol _ _ _ one (symbol_later s one is)
      takes_later deep left s d rest (takes_string _ _ _ bytes all enough) = takes_string _ _ _ bytes all enough
      takes_later deep left s d rest (takes_vector below inside _ vs ds parts) =
          takes_vector below inside rest vs ds (elements_later below inside vs ds rest parts)
      takes_later deep left s d rest (takes_nil _ _) = takes_nil _ _
      takes_later deep left s d rest (takes_list below inside _ car cdr ds t parts) =
          takes_list below inside rest car cdr ds t (chain_later below inside _ ds t rest parts)

      elements_later :
          (deep left : ℕ) (vs : List Value) (ds : Items) (rest : ℕ)
          → TakesElements old objects place expansion deep left vs ds rest
          → TakesElements new renamed place expansion deep left vs ds rest
      elements_later deep left vs ds rest (no_element _ _) = no_element _ _
      elements_later deep left vs ds rest (an_element _ _ middle _ v others d more first further) =
          an_element deep left middle rest v others d more
          (same_part (λ s. Takes_later deep left s d middle) v (takes_later deep left _ d middle first))
          (elements_later deep middle others more rest further)

      chain_later :
          (deep left : ℕ) (s : Shape) (ds : Items) (t : Tail) (rest : ℕ)
          → TakesChain old objects place expansion deep left s ds t rest
          → TakesChain new renamed place expansion deep left s ds t rest
      chain_later deep left s ds t rest (at_nil _ _) = at_nil _ _
      chain_later deep left s ds t rest (at_cons _ _ middle _ car cdr d more _ first further) =
          at_cons deep left middle rest car cdr d more t
          (same_part (λ s. Takes_later deep left s d middle) car (takes_later deep left _ d middle first))
          (same_part (λ s. TakesChain new renamed place expansion deep middle s more t rest) cdr
          (chain_later deep middle _ more t rest further))
      chain_later deep left s ds t rest (at_dot _ _ _ _ d end taken) =
          at_dot deep left rest s d end (takes_later deep left s d rest taken)

    mutual
      part_fails_later :
          (deep left : ℕ) (s : Shape) (q : Reason) → FailsShape old objects place expansion deep left s q
          → Fails_later deep left s q
      part_fails_later deep left s q (is_no_datum _ _) = is_no_datum _ _
      part_fails_later deep left s q (is_too_large _ _ _ less) = is_too_large deep left s less
      part_fails_later deep left s q (is_too_deep _ _ opening) = is_too_deep left s opening
      part_fails_later deep left s q (in_vector below inside vs _ parts) =
          in_vector below inside vs q (elements_fail_later below inside vs q parts)
      part_fails_later deep left s q (in_list below inside car cdr _ parts) =
          in_list below inside car cdr q (chain_fails_later below inside _ q parts)

      elements_fail_later :
          (deep left : ℕ) (vs : List Value) (q : Reason) → FailsElements old objects place expansion deep left vs q
          → FailsElements new renamed place expansion deep left vs q
      elements_fail_later deep left vs q (in_element _ _ v others _ first) =
          in_element deep left v others q
          (same_part (λ s. Fails_later deep left s q) v (part_fails_later deep left _ q first))
      elements_fail_later deep left vs q (behind_element _ _ middle v others d _ first further) =
          behind_element deep left middle v others d q
          (same_part (λ s. Takes_later deep left s d middle) v (takes_later deep left _ d middle first))
          (elements_fail_later deep middle others q further)

      chain_fails_later :
          (deep left : ℕ) (s : Shape) (q : Reason) → FailsChain old objects place expansion deep left s q
          → FailsChain new renamed place expansion deep left s q
      chain_fails_later deep left s q (in_car _ _ car cdr _ first) =
          in_car deep left car cdr q
          (same_part (λ s. Fails_later deep left s q) car (part_fails_later deep left _ q first))
      chain_fails_later deep left s q (in_cdr _ _ middle car cdr d _ first further) =
          in_cdr deep left middle car cdr d q
          (same_part (λ s. Takes_later deep left s d middle) car (takes_later deep left _ d middle first))
          (same_part (λ s. FailsChain new renamed place expansion deep middle s q) cdr
          (chain_fails_later deep middle _ q further))
      chain_fails_later deep left s q (behind_dot _ _ _ _ end first) =
          behind_dot deep left s q end (part_fails_later deep left s q first)

    pub datum_later :
        (v : Value) (d : Item) → DatumOf old objects place expansion v d
        → DatumOf new (store_by r objects) place expansion v d
    datum_later v d h = record {
      rest = h.rest;
      taken = same_part (λ s. Takes_later greatest_depth greatest_size s d h.rest) v
          (takes_later greatest_depth greatest_size _ d h.rest h.taken);
    }

    pub fails_later :
        (v : Value) (q : Reason) → DatumFails old objects place expansion v q
        → DatumFails new (store_by r objects) place expansion v q
    fails_later v q h =
        same_part (λ s. Fails_later greatest_depth greatest_size s q) v
        (part_fails_later greatest_depth greatest_size _ q h)
