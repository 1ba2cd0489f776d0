-- The parts of good data are good, and how large they are.
use Rattle.std.proofs.Common.{◌≡◌, ℕ, ◌+◌, ◌≤◌, true, ◌/◌, ℤ, w32, to_z, of_z, List, length, sym, ◌∙◌, ap, subst, arith}
use Rattle.std.proofs.lemmas.Int.{ints, to_z-of_z}
use Rattle.base.specs.declared.place.Place.{Place}
use Rattle.base.specs.declared.datum.Symbol.{Symbol}
use Rattle.base.specs.declared.datum.Kind.{Kind}
use Rattle.base.specs.Data.{Item, item, integer, symbol, string, vector, list, items_of, Tail, dotted}
use Rattle.base.specs.DataMeasures.{SymbolBelow, NamesBelow, size_of, sizes_of, size_of_tail}
use Rattle.base.specs.DataFormed.{has_30_bits, formed_tells}
use Rattle.base.specs.AllOf.{AllOf}
use Rattle.base.specs.DataParts.{OfDotted}
use Rattle.base.specs.WellFormedData.{WellFormed, good_items, good_tail, good_elements}
use Rattle.base.specs.model.DataView.{view_content, view_item}
use Rattle.lang_meaning.specs.Values.{in_range}
use Rattle.mid_arena.proofs.WordFacts.{range_tells}

-- the datum of which the code sees the kind
pub datum_is : (p : Place) (k l : Kind) (d : Item) → view_item p k ≡ d → k ≡ l → d ≡ item p (view_content l)
datum_is p k l d e f = sym e ∙ ap (λ m. view_item p m) f

pub some_size : (d : Item) → 1 ≤ size_of d
unfolding size_of
some_size (item p c) = omega arith

module _ (n : ℕ) (p : Place) (d : Item) (g : WellFormed n d) where
  pub integer_in_range : (i : ℤ) → d ≡ item p (integer i) → has_30_bits i ≡ true
  integer_in_range i e = formed_tells (item p (integer i)) (rw e at g).formed

  pub symbol_below : (s : Symbol) → d ≡ item p (symbol s) → SymbolBelow n s
  unfolding NamesBelow
  symbol_below s e = (rw e at g).named

  pub elements_good : (ds : List Item) → d ≡ item p (vector (items_of ds)) → AllOf (WellFormed n) ds
  elements_good ds e = good_elements n p ds (rw e at g)

  pub items_good : (ds : List Item) (t : Tail) → d ≡ item p (list (items_of ds) t) → AllOf (WellFormed n) ds
  items_good ds t e = good_items n p ds t (rw e at g)

  pub tail_good : (ds : List Item) (t : Tail) → d ≡ item p (list (items_of ds) t) → OfDotted (WellFormed n) t
  tail_good ds t e = good_tail n p (items_of ds) t (rw e at g)

pub string_size : (p : Place) (d : Item) (bytes : List ℕ) → d ≡ item p (string bytes) → size_of d ≡ 1 + (length bytes + 3) / 4
unfolding size_of
string_size p d bytes e = ap size_of e

pub vector_size : (p : Place) (d : Item) (ds : List Item) → d ≡ item p (vector (items_of ds)) → size_of d ≡ 1 + sizes_of (items_of ds)
unfolding size_of
vector_size p d ds e = ap size_of e

pub list_size : (p : Place) (d : Item) (ds : List Item) (t : Tail) → d ≡ item p (list (items_of ds) t) → size_of d ≡ 1 + (sizes_of (items_of ds) + size_of_tail t)
unfolding size_of
list_size p d ds t e = ap size_of e

pub dotted_size : (t : Tail) (d : Item) → t ≡ dotted d → size_of_tail t ≡ size_of d
unfolding size_of
dotted_size t d e = ap size_of_tail e

pub dotted_good : (n : ℕ) (t : Tail) (d : Item) → t ≡ dotted d → OfDotted (WellFormed n) t → WellFormed n d
dotted_good n t d e g = subst (OfDotted (WellFormed n)) e g

-- an integer of 30 bits, written in 32 and read back
pub number_back : (i : ℤ) → in_range i ≡ true → to_z w32 (of_z w32 i) ≡ i
number_back i h = let r = range_tells i h in grind (arith, ints, to_z-of_z)
