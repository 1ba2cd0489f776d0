-- What parts stand for, and when they are refused.
use Rattle.std.proofs.Common.{◌≡◌, ℕ, suc, ◌+◌, ◌-◌, ◌/◌, ◌≤◌, ◌<◌, ℤ, true, false, List, [], ◌∷◌, length, refl, sym, ap, subst, ◌∙◌, drop, arith}
use Rattle.std.proofs.lemmas.List.{drop_all}
use Rattle.base.specs.declared.reason.Reason.{Reason}
use Rattle.base.specs.declared.reason.Reason.TheVariants.{ExpansionNotForm, ExpansionTooLarge}
use Rattle.base.specs.declared.reason.Stop.{Stop}
use Rattle.base.specs.declared.reason.Stop.TheVariants.{Refused, NoMemory}
use Rattle.base.specs.declared.datum.Symbol.{Symbol}
use Rattle.base.specs.declared.place.Place.{Place}
use Rattle.base.specs.Data.{Item, item, Items, no_item, items_of, Tail, no_tail, dotted}
use Rattle.base.specs.Data as datum
use Rattle.base.specs.AllOf.{AllOf}
use Rattle.lang_meaning.specs.Values.{Value, in_range}
use Rattle.lang_meaning.specs.State as meaning
use Rattle.mid_arena.specs.Layouts.{AreBytes}
use Rattle.lang_taken.specs.Shapes.{Shape, shape_of, own_size, opens, is_list}
use Rattle.lang_taken.specs.Shapes as shape
use Rattle.lang_taken.specs.Taken.{SymbolFor, of_name, of_other_expansion, of_this_expansion}
use Rattle.lang_taken.specs.Taken.{IsByte, TakesShape, takes_integer, takes_character, takes_symbol, takes_string, takes_vector, takes_nil, takes_list}
use Rattle.lang_taken.specs.Taken.{TakesElements, no_element, TakesChain, at_nil, at_dot}
use Rattle.lang_taken.specs.Failing.{FailsShape, is_no_datum, is_too_large, is_too_deep, in_vector, in_list, FailsElements, FailsChain, behind_dot}
use Rattle.lang_taken.proofs.Once.{symbol_size}
use Rattle.mid_taken.specs.declared.parts.Part.{Part}
use Rattle.mid_taken.specs.declared.parts.Part.TheVariants.{Int, Char, Sym, Str, Vector, Nil, Cons, NoDatum}
use Rattle.mid_taken.specs.declared.memory.Memory.{Memory}
use Rattle.mid_taken.specs.Stands.{Stands}
use Rattle.mid_taken.specs.Parts.{IsPart, IsPartAt, IsCons, BytesIn, ValuesIn, part_size}
use Rattle.mid_taken.specs.Taking.{StopsBy, PartTaken, PartFails, WordTaken, WordFails}
use Rattle.mid_taken.proofs.Passed.{in_front, front_all, ElementsPassed, ChainPassed}

-- ---- sizes

-- a part takes as much as what is of its shape
pub size_is :
    (from : Memory) (names : List (List ℕ)) (z : meaning.State) (m : Stands names z from.words.now from.symbols.now) (s : Shape) (part : Part)
    → IsPart names m.places from.words.now from.expansion s part → own_size s ≡ part_size part
size_is from names z m s (Int n) h = ap own_size h.0
size_is from names z m s (Char code) h = ap own_size h.0
size_is from names z m s (Sym one) h = symbol_size names from.expansion s one h
size_is from names z m s (Str at count) h = ap own_size h.shape_is ∙ ap (λ n. 1 + (n + 3) / 4) h.count_is
size_is from names z m s (Vector at count) h = ap own_size h.shape_is
size_is from names z m s Nil h = ap own_size h
size_is from names z m s (Cons car cdr) h = ap own_size h.shape_is
size_is from names z m s NoDatum h = ap own_size h

pub too_large : (from : Memory) (part : Part) (deep left : ℕ) → left < part_size part → PartFails from part deep left ExpansionTooLarge
too_large from part deep left less = record {
  there = λ names z m s h. is_too_large deep left s (omega (arith, less, size_is from names z m s part h));
}

pub no_datum_fails : (from : Memory) (deep left : ℕ) → PartFails from NoDatum deep left ExpansionNotForm
no_datum_fails from deep left = record {
  there = λ names z m s h.
      let P : Shape → Type 0 = λ x. FailsShape names z.store from.place from.expansion deep left x ExpansionNotForm in
      subst P (sym h) (is_no_datum deep left);
}

-- where no level is left
pub vector_too_deep : (from : Memory) (at count deep left : ℕ) → deep ≡ 0 → PartFails from (Vector at count) deep left ExpansionTooLarge
vector_too_deep from at count deep left none = record {
  there = λ names z m s h.
      let P : ℕ → Type 0 = λ n. FailsShape names z.store from.place from.expansion n left s ExpansionTooLarge in
      subst P (sym none) (is_too_deep left s (ap opens h.shape_is));
}

pub list_too_deep : (from : Memory) (car cdr deep left : ℕ) → deep ≡ 0 → PartFails from (Cons car cdr) deep left ExpansionTooLarge
list_too_deep from car cdr deep left none = record {
  there = λ names z m s h.
      let P : ℕ → Type 0 = λ n. FailsShape names z.store from.place from.expansion n left s ExpansionTooLarge in
      subst P (sym none) (is_too_deep left s (ap opens h.shape_is));
}

-- ---- what has nothing inside

module _ (from : Memory) (deep left rest : ℕ) (enough : left ≡ 1 + rest) where
  one_less : left ≡ suc rest
  one_less = omega (arith, enough)

  -- of a shape, with so much left
  of_shape :
      (names : List (List ℕ)) (z : meaning.State) (s t : Shape) (d : Item) → s ≡ t → TakesShape names z.store from.place from.expansion deep (suc rest) t d rest
      → TakesShape names z.store from.place from.expansion deep left s d rest
  of_shape names z s t d same h =
      let P : Shape → Type 0 = λ x. TakesShape names z.store from.place from.expansion deep (suc rest) x d rest in
      let Q : ℕ → Type 0 = λ n. TakesShape names z.store from.place from.expansion deep n s d rest in
      subst Q (sym one_less) (subst P (sym same) h)

  pub int_taken : (n : ℤ) (d : Item) → (in_range n ≡ true → d ≡ item from.place (datum.integer n)) → PartTaken from (Int n) deep left d rest
  int_taken n d is = record {
    there = λ names z m s h.
        let P : Item → Type 0 = λ e. TakesShape names z.store from.place from.expansion deep left s e rest in
        subst P (sym (is h.1)) (of_shape names z s (shape.integer n) _ h.0 (takes_integer deep rest n h.1));
  }

  pub char_taken : (c : ℕ) (d : Item) → d ≡ item from.place (datum.character c) → PartTaken from (Char c) deep left d rest
  char_taken c d is = record {
    there = λ names z m s h.
        let P : Item → Type 0 = λ e. TakesShape names z.store from.place from.expansion deep left s e rest in
        subst P (sym is) (of_shape names z s (shape.character c) _ h.0 (takes_character deep rest c h.1));
  }

  pub symbol_taken : (one : Symbol) (d : Item) → d ≡ item from.place (datum.symbol one) → PartTaken from (Sym one) deep left d rest
  symbol_taken one d is = record {
    there = λ names z m s h.
        let P : Item → Type 0 = λ e. TakesShape names z.store from.place from.expansion deep left s e rest in
        subst P (sym is) (of_shape names z s s _ refl (takes_symbol deep rest s one h));
  }

  pub nil_taken : (d : Item) → d ≡ item from.place datum.nil → PartTaken from Nil deep left d rest
  nil_taken d is = record {
    there = λ names z m s h.
        let P : Item → Type 0 = λ e. TakesShape names z.store from.place from.expansion deep left s e rest in
        subst P (sym is) (of_shape names z s shape.nil _ h (takes_nil deep rest));
  }

-- ---- strings

all_bytes : (bytes : List ℕ) → AreBytes bytes → AllOf IsByte bytes
all_bytes [] h = tt
all_bytes (b ∷ bs) h = (omega (arith, h 0 (omega arith)), all_bytes bs (λ i below. h (suc i) (omega (arith, below))))

pub string_taken :
    (from : Memory) (at count deep left rest : ℕ) (read : List ℕ) (d : Item) → left ≡ 1 + (count + 3) / 4 + rest
    → ((bytes : List ℕ) → length bytes ≡ count → BytesIn from.words.now at bytes → read ≡ bytes) → d ≡ item from.place (datum.string read)
    → PartTaken from (Str at count) deep left d rest
string_taken from at count deep left rest read d enough reads is = record {
  there = λ names z m s h.
      let same : read ≡ h.bytes = reads h.bytes h.count_is h.there in
      let inside : ℕ = (length h.bytes + 3) / 4 + rest in
      let left_is : left ≡ suc inside = omega (arith, enough, ap (λ n. (n + 3) / 4) h.count_is) in
      let taken : TakesShape names z.store from.place from.expansion deep (suc inside) (shape.string h.bytes) (item from.place (datum.string h.bytes)) rest =
      takes_string deep inside rest h.bytes (all_bytes h.bytes h.there.are_bytes) refl in
      let P : Shape → Type 0 = λ x. TakesShape names z.store from.place from.expansion deep (suc inside) x (item from.place (datum.string h.bytes)) rest in
      let Q : ℕ → Type 0 = λ n. TakesShape names z.store from.place from.expansion deep n s (item from.place (datum.string h.bytes)) rest in
      let R : Item → Type 0 = λ e. TakesShape names z.store from.place from.expansion deep left s e rest in
      subst R (ap (λ x. item from.place (datum.string x)) (sym same) ∙ sym is) (subst Q (sym left_is) (subst P (sym h.shape_is) taken));
}

-- ---- vectors and lists

-- one level and one of what is left more
deeper :
    (from : Memory) (names : List (List ℕ)) (z : meaning.State) (s t : Shape) (d : Item) (deep below left rest : ℕ) → deep ≡ suc below → s ≡ t
    → TakesShape names z.store from.place from.expansion (suc below) (suc left) t d rest
    → TakesShape names z.store from.place from.expansion deep (1 + left) s d rest
deeper from names z s t d deep below left rest level same h =
    let more : 1 + left ≡ suc left = omega arith in
    let P : Shape → Type 0 = λ x. TakesShape names z.store from.place from.expansion (suc below) (suc left) x d rest in
    let Q : ℕ → Type 0 = λ n. TakesShape names z.store from.place from.expansion n (suc left) s d rest in
    let R : ℕ → Type 0 = λ n. TakesShape names z.store from.place from.expansion deep n s d rest in
    subst R (sym more) (subst Q (sym level) (subst P (sym same) h))

deeper_fails :
    (from : Memory) (names : List (List ℕ)) (z : meaning.State) (s t : Shape) (r : Reason) (deep below left : ℕ) → deep ≡ suc below → s ≡ t
    → FailsShape names z.store from.place from.expansion (suc below) (suc left) t r
    → FailsShape names z.store from.place from.expansion deep (1 + left) s r
deeper_fails from names z s t r deep below left level same h =
    let more : 1 + left ≡ suc left = omega arith in
    let P : Shape → Type 0 = λ x. FailsShape names z.store from.place from.expansion (suc below) (suc left) x r in
    let Q : ℕ → Type 0 = λ n. FailsShape names z.store from.place from.expansion n (suc left) s r in
    let R : ℕ → Type 0 = λ n. FailsShape names z.store from.place from.expansion deep n s r in
    subst R (sym more) (subst Q (sym level) (subst P (sym same) h))

pub vector_taken :
    (from : Memory) (at count deep left rest k : ℕ) (items : List Item) (d : Item) → (deep ≡ 0 → ⊥) → count ≤ k
    → ElementsPassed from at count (deep - 1) left items k rest → d ≡ item from.place (datum.vector (items_of items))
    → PartTaken from (Vector at count) deep (1 + left) d rest
vector_taken from at count deep left rest k items d some all p is = record {
  there = λ names z m s h.
      let level : deep ≡ suc (deep - 1) = omega (arith, some) in
      let none : drop k h.values ≡ [] = drop_all k h.values (omega (arith, all, h.count_is)) in
      let P : List Value → Type 0 = λ us. TakesElements names z.store from.place from.expansion (deep - 1) rest us no_item rest in
      let elements : TakesElements names z.store from.place from.expansion (deep - 1) left h.values (in_front items no_item) rest =
      p.taken names z m h.values h.count_is h.there no_item rest (subst P (sym none) (no_element (deep - 1) rest)) in
      let Q : Items → Type 0 = λ es. TakesElements names z.store from.place from.expansion (deep - 1) left h.values es rest in
      let R : Item → Type 0 = λ e. TakesShape names z.store from.place from.expansion deep (1 + left) s e rest in
      subst R (sym is)
      (deeper from names z s (shape.vector h.values) _ deep (deep - 1) left rest level h.shape_is
      (takes_vector (deep - 1) left rest h.values (items_of items) (subst Q (front_all items) elements)));
}

pub vector_fails :
    (from : Memory) (at count deep left : ℕ) (r : Reason) → (deep ≡ 0 → ⊥)
    → ((names : List (List ℕ)) (z : meaning.State) (m : Stands names z from.words.now from.symbols.now) (vs : List Value) → length vs ≡ count
    → ValuesIn m.places from.words.now at vs → FailsElements names z.store from.place from.expansion (deep - 1) left vs r)
    → PartFails from (Vector at count) deep (1 + left) r
vector_fails from at count deep left r some fails = record {
  there = λ names z m s h.
      let level : deep ≡ suc (deep - 1) = omega (arith, some) in
      deeper_fails from names z s (shape.vector h.values) r deep (deep - 1) left level h.shape_is
      (in_vector (deep - 1) left h.values r (fails names z m h.values h.count_is h.there));
}

-- the chain of a cons
list_taken_by :
    (from : Memory) (car cdr deep left rest : ℕ) (items : List Item) (t : Tail) (d : Item) → (deep ≡ 0 → ⊥)
    → ((names : List (List ℕ)) (z : meaning.State) (m : Stands names z from.words.now from.symbols.now) (s : Shape) → IsCons m.places car cdr s
    → TakesChain names z.store from.place from.expansion (deep - 1) left s (in_front items no_item) t rest)
    → d ≡ item from.place (datum.list (items_of items) t) → PartTaken from (Cons car cdr) deep (1 + left) d rest
list_taken_by from car cdr deep left rest items t d some chain is = record {
  there = λ names z m s h.
      let level : deep ≡ suc (deep - 1) = omega (arith, some) in
      let S : Shape → Type 0 = λ x. TakesChain names z.store from.place from.expansion (deep - 1) left x (items_of items) t rest in
      let Q : Items → Type 0 = λ es. TakesChain names z.store from.place from.expansion (deep - 1) left s es t rest in
      let taken : S s = subst Q (front_all items) (chain names z m s h) in
      let R : Item → Type 0 = λ e. TakesShape names z.store from.place from.expansion deep (1 + left) s e rest in
      subst R (sym is)
      (deeper from names z s (shape.cons h.first h.second) _ deep (deep - 1) left rest level h.shape_is
      (takes_list (deep - 1) left rest h.first h.second (items_of items) t (subst S h.shape_is taken)));
}

pub list_taken :
    (from : Memory) (car cdr deep left rest : ℕ) (items : List Item) (d : Item) → (deep ≡ 0 → ⊥)
    → ChainPassed from (Cons car cdr) (deep - 1) left items Nil rest → d ≡ item from.place (datum.list (items_of items) no_tail)
    → PartTaken from (Cons car cdr) deep (1 + left) d rest
list_taken from car cdr deep left rest items d some p is =
    list_taken_by from car cdr deep left rest items no_tail d some
    (λ names z m s h.
    let o = p.there names z m s h in
    let is_nil : o.shape ≡ shape.nil = o.is_part in
    let P : Shape → Type 0 = λ x. TakesChain names z.store from.place from.expansion (deep - 1) rest x no_item no_tail rest in
    o.taken no_item no_tail rest (subst P (sym is_nil) (at_nil (deep - 1) rest)))
    is

-- no symbol is a list
symbol_no_list : (names : List (List ℕ)) (expansion : ℕ) (s : Shape) (one : Symbol) → SymbolFor names expansion s one → is_list s ≡ false
symbol_no_list names expansion s one (of_name text name at) = refl
symbol_no_list names expansion s one (of_other_expansion other serial) = refl
symbol_no_list names expansion s one (of_this_expansion serial) = refl

-- what is neither a cons nor nil is no list
no_list :
    (from : Memory) (names : List (List ℕ)) (z : meaning.State) (m : Stands names z from.words.now from.symbols.now) (s : Shape) (part : Part)
    → ((car cdr : ℕ) → part ≡ Cons car cdr → ⊥) → (part ≡ Nil → ⊥) → IsPart names m.places from.words.now from.expansion s part → is_list s ≡ false
no_list from names z m s (Int n) no_cons no_nil h = ap is_list h.0
no_list from names z m s (Char code) no_cons no_nil h = ap is_list h.0
no_list from names z m s (Sym one) no_cons no_nil h = symbol_no_list names from.expansion s one h
no_list from names z m s (Str at count) no_cons no_nil h = ap is_list h.shape_is
no_list from names z m s (Vector at count) no_cons no_nil h = ap is_list h.shape_is
no_list from names z m s Nil no_cons no_nil h = absurd (no_nil refl)
no_list from names z m s (Cons car cdr) no_cons no_nil h = absurd (no_cons car cdr refl)
no_list from names z m s NoDatum no_cons no_nil h = ap is_list h

pub dotted_taken :
    (from : Memory) (car cdr deep left middle rest : ℕ) (items : List Item) (part : Part) (end d : Item) → (deep ≡ 0 → ⊥)
    → ((first second : ℕ) → part ≡ Cons first second → ⊥) → (part ≡ Nil → ⊥)
    → ChainPassed from (Cons car cdr) (deep - 1) left items part middle → PartTaken from part (deep - 1) middle end rest
    → d ≡ item from.place (datum.list (items_of items) (dotted end)) → PartTaken from (Cons car cdr) deep (1 + left) d rest
dotted_taken from car cdr deep left middle rest items part end d some no_cons no_nil p t is =
    list_taken_by from car cdr deep left rest items (dotted end) d some
    (λ names z m s h.
    let o = p.there names z m s h in
    o.taken no_item (dotted end) rest
    (at_dot (deep - 1) middle rest o.shape end (no_list from names z m o.shape part no_cons no_nil o.is_part) (t.there names z m o.shape o.is_part)))
    is

list_fails_by :
    (from : Memory) (car cdr deep left : ℕ) (r : Reason) → (deep ≡ 0 → ⊥)
    → ((names : List (List ℕ)) (z : meaning.State) (m : Stands names z from.words.now from.symbols.now) (s : Shape) → IsCons m.places car cdr s
    → FailsChain names z.store from.place from.expansion (deep - 1) left s r)
    → PartFails from (Cons car cdr) deep (1 + left) r
list_fails_by from car cdr deep left r some fails = record {
  there = λ names z m s h.
      let level : deep ≡ suc (deep - 1) = omega (arith, some) in
      let S : Shape → Type 0 = λ x. FailsChain names z.store from.place from.expansion (deep - 1) left x r in
      deeper_fails from names z s (shape.cons h.first h.second) r deep (deep - 1) left level h.shape_is
      (in_list (deep - 1) left h.first h.second r (subst S h.shape_is (fails names z m s h)));
}

pub item_fails :
    (from : Memory) (car cdr deep left : ℕ) (r : Reason) → (deep ≡ 0 → ⊥)
    → ((names : List (List ℕ)) (z : meaning.State) (m : Stands names z from.words.now from.symbols.now) (s : Shape)
    → IsPart names m.places from.words.now from.expansion s (Cons car cdr) → FailsChain names z.store from.place from.expansion (deep - 1) left s r)
    → PartFails from (Cons car cdr) deep (1 + left) r
item_fails from car cdr deep left r some fails = list_fails_by from car cdr deep left r some (λ names z m s h. fails names z m s h)

pub end_fails :
    (from : Memory) (car cdr deep left middle : ℕ) (items : List Item) (part : Part) (r : Reason) → (deep ≡ 0 → ⊥)
    → ((first second : ℕ) → part ≡ Cons first second → ⊥) → (part ≡ Nil → ⊥)
    → ChainPassed from (Cons car cdr) (deep - 1) left items part middle → PartFails from part (deep - 1) middle r
    → PartFails from (Cons car cdr) deep (1 + left) r
end_fails from car cdr deep left middle items part r some no_cons no_nil p f =
    list_fails_by from car cdr deep left r some
    (λ names z m s h.
    let o = p.there names z m s h in
    o.fails r (behind_dot (deep - 1) middle o.shape r (no_list from names z m o.shape part no_cons no_nil o.is_part) (f.there names z m o.shape o.is_part)))

-- ---- words

pub word_taken :
    (from : Memory) (word deep left : ℕ) (part : Part) (d : Item) (rest : ℕ) → IsPartAt from word part → PartTaken from part deep left d rest
    → WordTaken from word deep left d rest
word_taken from word deep left part d rest p t = record { there = λ names z m v e. t.there names z m (shape_of z.store v) (p.there names z m v e) }

pub word_fails :
    (from : Memory) (word deep left : ℕ) (part : Part) (r : Reason) → IsPartAt from word part → PartFails from part deep left r
    → WordFails from word deep left r
word_fails from word deep left part r p f = record { there = λ names z m v e. f.there names z m (shape_of z.store v) (p.there names z m v e) }

-- ---- stops

-- a stop for a reason is one for what follows of each
pub stops_weaker : (place : Place) (P Q : Reason → Type 0) → ((r : Reason) → P r → Q r) → (stop : Stop) → StopsBy place P stop → StopsBy place Q stop
stops_weaker place P Q f (Refused refusal) h = (h.0, f refusal.reason h.1)
stops_weaker place P Q f NoMemory h = tt

pub stops_refused : (place : Place) (P : Reason → Type 0) (r : Reason) (stop : Stop) → stop ≡ Refused (record { place = place; reason = r }) → P r → StopsBy place P stop
stops_refused place P r stop is h = subst (StopsBy place P) (sym is) (refl, h)

pub stops_wanting : (place : Place) (P : Reason → Type 0) (stop : Stop) → stop ≡ NoMemory → StopsBy place P stop
stops_wanting place P stop is = subst (StopsBy place P) (sym is) tt

-- ---- parts that are known

-- what is left in front, where the part is known
pub left_is : (part known : Part) (left rest : ℕ) → left ≡ part_size part + rest → part ≡ known → left ≡ part_size known + rest
left_is part known left rest spent same = spent ∙ ap (λ p. part_size p + rest) same

pub taken_as :
    (from : Memory) (part known : Part) (deep left : ℕ) (d : Item) (rest : ℕ) → part ≡ known → PartTaken from known deep left d rest
    → PartTaken from part deep left d rest
taken_as from part known deep left d rest same t = let P : Part → Type 0 = λ p. PartTaken from p deep left d rest in subst P (sym same) t

pub fails_as :
    (from : Memory) (part known : Part) (deep left : ℕ) (r : Reason) → part ≡ known → PartFails from known deep left r → PartFails from part deep left r
fails_as from part known deep left r same f = let P : Part → Type 0 = λ p. PartFails from p deep left r in subst P (sym same) f

-- the same where so much of what is left was taken
pub taken_of :
    (from : Memory) (part known : Part) (deep left between : ℕ) (d : Item) (rest : ℕ) → left ≡ part_size part + between → part_size known ≡ 1 → part ≡ known
    → PartTaken from known deep (1 + between) d rest → PartTaken from part deep left d rest
taken_of from part known deep left between d rest spent one same t =
    let is : left ≡ 1 + between = left_is part known left between spent same ∙ ap (λ n. n + between) one in
    let P : ℕ → Type 0 = λ n. PartTaken from part deep n d rest in
    subst P (sym is) (taken_as from part known deep (1 + between) d rest same t)

pub fails_of :
    (from : Memory) (part known : Part) (deep left between : ℕ) (r : Reason) → left ≡ part_size part + between → part_size known ≡ 1 → part ≡ known
    → PartFails from known deep (1 + between) r → PartFails from part deep left r
fails_of from part known deep left between r spent one same f =
    let is : left ≡ 1 + between = left_is part known left between spent same ∙ ap (λ n. n + between) one in
    let P : ℕ → Type 0 = λ n. PartFails from part deep n r in
    subst P (sym is) (fails_as from part known deep (1 + between) r same f)
