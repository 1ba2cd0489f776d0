-- The data that are taken are in form.
use Rattle.std.proofs.Common.{◌≡◌, ℕ, ◌≢◌, false, List, length}
use Rattle.std.proofs.lemmas.Option.{slice_get_within}
use Rattle.base.specs.declared.place.Place.{Place}
use Rattle.base.specs.declared.datum.Symbol.{Symbol}
use Rattle.base.specs.Data.{Item, item, Items, no_item, Tail, dotted}
use Rattle.base.specs.Data as datum
use Rattle.base.specs.DataMeasures.{Formed, AllFormed, FormedTail, SymbolBelow, NamesBelow, AllNamesBelow, NamesBelowTail}
use Rattle.base.specs.DataFormed.{formed_told}
use Rattle.lang_meaning.specs.Values.{Value}
use Rattle.lang_meaning.specs.Objects.{Object}
use Rattle.lang_taken.specs.Shapes.{Shape, cons, is_list}
use Rattle.lang_taken.specs.Taken.{SymbolFor, of_name, of_other_expansion, of_this_expansion}
use Rattle.lang_taken.specs.Taken.{TakesShape, takes_integer, takes_character, takes_symbol, takes_string, takes_vector, takes_nil, takes_list}
use Rattle.lang_taken.specs.Taken.{TakesElements, no_element, an_element, TakesChain, at_nil, at_cons, at_dot}
use Rattle.lang_taken.specs.Bytes.{HasBytes, AllHaveBytes, TailHasBytes}
use Rattle.lang_taken.specs.Laws.{LawOfForm}

symbol_below : (names : List (List ℕ)) (expansion : ℕ) (s : Shape) (one : Symbol) → SymbolFor names expansion s one → SymbolBelow (length names) one
symbol_below names expansion s one (of_name text name at) = slice_get_within names name.0 text at
symbol_below names expansion s one (of_other_expansion other serial) = tt
symbol_below names expansion s one (of_this_expansion serial) = tt

-- in form, with names in the table, of bytes
record IsGood (count : ℕ) (d : Item) : Type 0 where
  formed : Formed d
  named : NamesBelow count d
  bytes : HasBytes d

record AreGood (count : ℕ) (ds : Items) : Type 0 where
  formed : AllFormed ds
  named : AllNamesBelow count ds
  bytes : AllHaveBytes ds

record TailGood (count : ℕ) (t : Tail) : Type 0 where
  formed : FormedTail t
  named : NamesBelowTail count t
  bytes : TailHasBytes t

module _ (names : List (List ℕ)) (objects : List Object) (place : Place) (expansion : ℕ) where
  -- what is no list stands for none
  end_formed :
      (deep left : ℕ) (s : Shape) (d : Item) (rest : ℕ) → TakesShape names objects place expansion deep left s d rest → is_list s ≡ false → Formed d
      → FormedTail (dotted d)
  unfolding Formed
  end_formed deep left s d rest (takes_integer _ _ n range) other h = (tt, h)
  end_formed deep left s d rest (takes_character _ _ c small) other h = (tt, h)
  end_formed deep left s d rest (takes_symbol _ _ _ one is) other h = (tt, h)
  end_formed deep left s d rest (takes_string _ _ _ bytes all enough) other h = (tt, h)
  end_formed deep left s d rest (takes_vector _ _ _ vs ds parts) other h = (tt, h)
  end_formed deep left s d rest (takes_nil _ _) other h = absurd (cc other)
  end_formed deep left s d rest (takes_list _ _ _ car cdr ds t parts) other h = absurd (cc other)

  -- the chain of a cons has an item
  chain_some :
      (deep left : ℕ) (car cdr : Value) (ds : Items) (t : Tail) (rest : ℕ)
      → TakesChain names objects place expansion deep left (cons car cdr) ds t rest → ds ≢ no_item
  chain_some deep left car cdr ds t rest (at_cons _ _ _ _ _ _ d others _ first further) = λ e. absurd (cc e)
  chain_some deep left car cdr ds t rest (at_dot _ _ _ _ d other taken) = absurd (cc other)

  mutual
    unfolding Formed NamesBelow

    good : (deep left : ℕ) (s : Shape) (d : Item) (rest : ℕ) → TakesShape names objects place expansion deep left s d rest → IsGood (length names) d
    good deep left s d rest (takes_integer _ _ n range) = record { formed = formed_told (item place (datum.integer n)) range; named = tt; bytes = tt }
    good deep left s d rest (takes_character _ _ c small) = record { formed = tt; named = tt; bytes = small }
    good deep left s d rest (takes_symbol _ _ _ one is) = record { formed = tt; named = symbol_below names expansion s one is; bytes = tt }
    good deep left s d rest (takes_string _ _ _ bytes all enough) = record { formed = tt; named = tt; bytes = all }
    good deep left s d rest (takes_vector below inside _ vs ds parts) =
        let g = elements_good below inside vs ds rest parts in record { formed = g.formed; named = g.named; bytes = g.bytes }
    good deep left s d rest (takes_nil _ _) = record { formed = tt; named = tt; bytes = tt }
    good deep left s d rest (takes_list below inside _ car cdr ds t parts) =
        let g = chain_good below inside (cons car cdr) ds t rest parts in
        record {
          formed = (chain_some below inside car cdr ds t rest parts, g.0.formed, g.1.formed);
          named = (g.0.named, g.1.named);
          bytes = (g.0.bytes, g.1.bytes);
        }

    elements_good :
        (deep left : ℕ) (vs : List Value) (ds : Items) (rest : ℕ) → TakesElements names objects place expansion deep left vs ds rest
        → AreGood (length names) ds
    elements_good deep left vs ds rest (no_element _ _) = record { formed = tt; named = tt; bytes = tt }
    elements_good deep left vs ds rest (an_element _ _ middle _ v others d taken first further) =
        let g = good deep left _ d middle first in
        let h = elements_good deep middle others taken rest further in
        record { formed = (g.formed, h.formed); named = (g.named, h.named); bytes = (g.bytes, h.bytes) }

    chain_good :
        (deep left : ℕ) (s : Shape) (ds : Items) (t : Tail) (rest : ℕ) → TakesChain names objects place expansion deep left s ds t rest
        → AreGood (length names) ds × TailGood (length names) t
    chain_good deep left s ds t rest (at_nil _ _) =
        (record { formed = tt; named = tt; bytes = tt }, record { formed = tt; named = tt; bytes = tt })
    chain_good deep left s ds t rest (at_cons _ _ middle _ car cdr d others _ first further) =
        let g = good deep left _ d middle first in
        let h = chain_good deep middle _ others t rest further in
        (record { formed = (g.formed, h.0.formed); named = (g.named, h.0.named); bytes = (g.bytes, h.0.bytes) }, h.1)
    chain_good deep left s ds t rest (at_dot _ _ _ _ d other taken) =
        let g = good deep left s d rest taken in (
          record { formed = tt; named = tt; bytes = tt },
          record { formed = end_formed deep left s d rest taken other g.formed; named = g.named; bytes = g.bytes },
        )

pub law_of_form : LawOfForm
law_of_form names objects place expansion deep left v d rest taken =
    let g = good names objects place expansion deep left _ d rest taken in
    (record { formed = g.formed; named = g.named }, g.bytes)
