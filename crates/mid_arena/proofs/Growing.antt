-- An arena that grows or changes in a spot: what stands in it goes on standing, and keeps its words.
use Rattle.std.proofs.Common.{◌≡◌, ℕ, ◌≤◌, refl, ◌∙◌, arith}
use Rattle.mid_code.specs.Arena.{Arena, stack_from}
use Rattle.mid_arena.specs.Places.{Spot, end_of}
use Rattle.mid_arena.specs.Standing.{ArenaStands, IsLentPart, of_laid, of_heap, SpotStands, Apart, in_front, behind, SameWords}
use Rattle.mid_arena.specs.Growing.{HeapGrows, Grows, Changes}

pub grows_same : (a : Arena) → ArenaStands a → Grows a a
grows_same a stands = record {
  heap = record { size = refl; laid_from = refl; laid_to = refl; heap_from = refl; heap_to = omega arith; stands = stands; words = λ x h. refl };
  stack = λ x from to. refl;
}

-- ---- one after another

-- the stack in between begins no higher than one of the two others
abbrev pub IsBetween : (a b c : Arena) → Type 0
IsBetween a b c = (x : ℕ) → stack_from a ≤ x → stack_from c ≤ x → stack_from b ≤ x

pub heap_grows_both : {a b c : Arena} → HeapGrows a b → HeapGrows b c → HeapGrows a c
heap_grows_both g h = record {
  size = h.size ∙ g.size;
  laid_from = h.laid_from ∙ g.laid_from;
  laid_to = h.laid_to ∙ g.laid_to;
  heap_from = h.heap_from ∙ g.heap_from;
  heap_to = omega (arith, g.heap_to, h.heap_to);
  stands = h.stands;
  words = λ x low. h.words x (omega (arith, low, g.heap_to)) ∙ g.words x low;
}

pub grows_both : (a b c : Arena) → Grows a b → Grows b c → IsBetween a b c → Grows a c
grows_both a b c g h between = record {
  heap = heap_grows_both g.heap h.heap;
  stack = λ x from to. h.stack x (between x from to) to ∙ g.stack x from (between x from to);
}

-- an arena that grows changes no spot
pub changes_of_growing : (a b : Arena) (s : Spot) → Grows a b → end_of s ≤ a.heap_to → Changes s a b
changes_of_growing a b s g low = record {
  laid_from = g.laid_from;
  laid_to = g.laid_to;
  heap_from = g.heap_from;
  heap_to = g.heap_to;
  stands = g.stands;
  before = λ x h. g.words x (omega arith);
  after = λ x h below. g.words x below;
  stack = g.stack;
}

pub changes_both : (a b c : Arena) (s : Spot) → Changes s a b → Changes s b c → IsBetween a b c → Changes s a c
changes_both a b c s g h between = record {
  laid_from = h.laid_from ∙ g.laid_from;
  laid_to = h.laid_to ∙ g.laid_to;
  heap_from = h.heap_from ∙ g.heap_from;
  heap_to = omega (arith, g.heap_to, h.heap_to);
  stands = h.stands;
  before = λ x low. h.before x low ∙ g.before x low;
  after = λ x high low. h.after x high (omega (arith, low, g.heap_to)) ∙ g.after x high low;
  stack = λ x from to. h.stack x (between x from to) to ∙ g.stack x from (between x from to);
}

-- ---- spots

-- a spot ends in what was laid or in the heap, and so below the stack
pub spot_below : {a : Arena} {s : Spot} → ArenaStands a → SpotStands a s → end_of s ≤ a.heap_to
spot_below {a} {s} stands spot = by spot.part
  where
    by : IsLentPart a s → end_of s ≤ a.heap_to
    by (of_laid low high) = omega (arith, high, stands.laid, stands.heap)
    by (of_heap low high) = high

-- a spot stands as long as the bounds only grow
pub spot_stands :
    (a b : Arena) (s : Spot) → b.laid_from ≡ a.laid_from → b.laid_to ≡ a.laid_to → b.heap_from ≡ a.heap_from → a.heap_to ≤ b.heap_to
    → SpotStands a s → SpotStands b s
spot_stands a b s laid_from laid_to heap_from heap_to spot = record { aligned = spot.aligned; some = spot.some; tag = spot.tag; part = by spot.part }
  where
    by : IsLentPart a s → IsLentPart b s
    by (of_laid low high) = of_laid (omega arith) (omega arith)
    by (of_heap low high) = of_heap (omega arith) (omega arith)

pub spot_grown : {a b : Arena} {s : Spot} → HeapGrows a b → SpotStands a s → SpotStands b s
spot_grown {a} {b} {s} g = spot_stands a b s g.laid_from g.laid_to g.heap_from g.heap_to

-- a spot that stood has the same words
pub words_grown : (a b : Arena) (s : Spot) → HeapGrows a b → ArenaStands a → SpotStands a s → SameWords a b s
words_grown a b s g stands spot x low high = let below = spot_below stands spot in g.words x (omega arith)

-- a change in a part of a spot is one in the spot
pub changes_part : (s part : Spot) (a b : Arena) → s.address ≤ part.address → end_of part ≤ end_of s → Changes part a b → Changes s a b
changes_part s part a b low high c = record {
  laid_from = c.laid_from;
  laid_to = c.laid_to;
  heap_from = c.heap_from;
  heap_to = c.heap_to;
  stands = c.stands;
  before = λ x h. c.before x (omega arith);
  after = λ x h below. c.after x (omega arith) below;
  stack = c.stack;
}

pub spot_changed : (a b : Arena) (s one : Spot) → Changes s a b → SpotStands a one → SpotStands b one
spot_changed a b s one c = spot_stands a b one c.laid_from c.laid_to c.heap_from c.heap_to

-- a spot apart from the one that changed has the same words
pub words_apart : (a b : Arena) (s one : Spot) → Changes s a b → ArenaStands a → SpotStands a one → Apart one s → SameWords a b one
words_apart a b s one c stands spot (in_front h) x low high = c.before x (omega arith)
words_apart a b s one c stands spot (behind h) x low high = let below = spot_below stands spot in c.after x (omega arith) (omega arith)
