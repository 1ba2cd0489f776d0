-- Functions keep their numbers, and data make no functions.
use Rattle.std.proofs.Common.{◌≡◌, ℕ, zero, suc, ◌+◌, ◌<◌, List, [], ◌∷◌, ◌++◌, length, Some, refl, sym, ◌∙◌, ap, subst, arith}
use Rattle.std.specs.Prelude.{slice_get}
use Rattle.std.proofs.lemmas.Option.{slice_get_within}
use Rattle.base.specs.Data as datum
use Rattle.lang_meaning.specs.declared.program.ProgramRows.{ProgramRows}
use Rattle.lang_meaning.specs.Objects.{Object, function}
use Rattle.lang_meaning.specs.Literals.{Laid, lay, lay_content, lay_items, lay_list, lay_tail}
use Rattle.mid_arena.specs.Places.{Spot, Places, of_object, spot_in, spot_of}
use Rattle.mid_arena.specs.Standing.{SameWords}
use Rattle.mid_start.specs.declared.words.ArenaWords.{ArenaWords}
use Rattle.mid_start.specs.LaidArena.{arena_of}
use Rattle.mid_start.specs.LaidWell.{LaidWell}
use Rattle.mid_start.specs.Laying.{Longer, Grown}
use Rattle.mid_start.proofs.LaidWords.{words_grown}
use Rattle.mid_start.specs.Making.{IsNumbered, AreNumbered}

-- ---- objects that are no functions

abbrev pub IsNoFunction : Object → Type 0
IsNoFunction (function p) = ⊥
IsNoFunction other = Unit {0}

abbrev pub NoFunctions : List Object → Type 0
NoFunctions [] = Unit {0}
NoFunctions (o ∷ os) = IsNoFunction o × NoFunctions os

none_both : (os ps : List Object) → NoFunctions os → NoFunctions ps → NoFunctions (os ++ ps)
none_both [] ps h g = g
none_both (o ∷ os) ps h g = (h.0, none_both os ps h.1 g)

none_at : (os : List Object) (i p : ℕ) → NoFunctions os → slice_get os i ≡ Some (function p) → ⊥
none_at [] i p h e = cc e
none_at (o ∷ os) zero p h e = let same : o ≡ function p = cc e in subst IsNoFunction same h.0
none_at (o ∷ os) (suc i) p h e = none_at os i p h.1 e

mutual
  pub data_no_functions : (names : List (List ℕ)) (d : datum.Item) (n : ℕ) → NoFunctions (lay names d n).objects
  data_no_functions names (datum.item p c) n = content_no_functions names c n

  pub content_no_functions : (names : List (List ℕ)) (c : datum.Content) (n : ℕ) → NoFunctions (lay_content names c n).objects
  content_no_functions names (datum.string bytes) n = (tt, tt)
  content_no_functions names (datum.vector ds) n = none_both (lay_items names ds n).0 _ (items_no_functions names ds n) (tt, tt)
  content_no_functions names (datum.list ds end) n = list_no_functions names ds (lay_tail names end) (λ m. tail_no_functions names end m) n
  content_no_functions names w n = tt

  items_no_functions : (names : List (List ℕ)) (ds : datum.Items) (n : ℕ) → NoFunctions (lay_items names ds n).0
  items_no_functions names datum.no_item n = tt
  items_no_functions names (datum.item_and d ds) n =
      none_both (lay names d n).objects _ (data_no_functions names d n) (items_no_functions names ds (n + length (lay names d n).objects))

  list_no_functions :
      (names : List (List ℕ)) (ds : datum.Items) (end : ℕ → Laid) → ((m : ℕ) → NoFunctions (end m).objects) → (n : ℕ) → NoFunctions (lay_list names ds end n).objects
  list_no_functions names datum.no_item end h n = h n
  list_no_functions names (datum.item_and d ds) end h n =
      let first = (lay names d n).objects in
      let others = (lay_list names ds end (n + length first)).objects in
      none_both (first ++ others) _ (none_both first others (data_no_functions names d n) (list_no_functions names ds end h (n + length first))) (tt, tt)

  tail_no_functions : (names : List (List ℕ)) (end : datum.Tail) (n : ℕ) → NoFunctions (lay_tail names end n).objects
  tail_no_functions names datum.no_tail n = tt
  tail_no_functions names (datum.dotted d) n = data_no_functions names d n

-- ---- functions keep their numbers

-- an item of one list or of the one behind it
pub data FrontOrBehind {X : Type 0} (xs ys : List X) (i : ℕ) (x : X) : Type 0 where
  at_front : slice_get xs i ≡ Some x → FrontOrBehind xs ys i x
  further : (j : ℕ) → i ≡ length xs + j → slice_get ys j ≡ Some x → FrontOrBehind xs ys i x

pub front_or_behind : {X : Type 0} (xs ys : List X) (i : ℕ) (x : X) → slice_get (xs ++ ys) i ≡ Some x → FrontOrBehind xs ys i x
front_or_behind [] ys i x e = further i (omega arith) e
front_or_behind (z ∷ zs) ys zero x e = at_front e
front_or_behind (z ∷ zs) ys (suc i) x e = by (front_or_behind zs ys i x e)
  where
    by : FrontOrBehind zs ys i x → FrontOrBehind (z ∷ zs) ys (suc i) x
    by (at_front h) = at_front h
    by (further j same h) = further j (omega arith) h

front_same : {X : Type 0} (xs ys : List X) (i : ℕ) → i < length xs → slice_get (xs ++ ys) i ≡ slice_get xs i
front_same [] ys i h = absurd (omega arith)
front_same (x ∷ xs) ys zero h = refl
front_same (x ∷ xs) ys (suc i) h = front_same xs ys i (omega arith)

-- the same words, the same number
pub number_kept : (before after : ArenaWords) (s : Spot) (p : ℕ) → SameWords (arena_of before) (arena_of after) s → IsNumbered before s p → IsNumbered after s p
number_kept before after s p same h = record { size = h.size; number = same (s.address + 4) (omega arith) (omega (arith, h.size)) ∙ h.number }

module _
    (names : List (List ℕ)) (program : ProgramRows) (places more : Places) (store : List Object) (before after : ArenaWords)
    (h : LaidWell names program places store before) (longer : Longer places more) (grown : Grown before after) (numbered : AreNumbered places store before)
  where
    -- a function that was there
    pub old_numbered : (i p : ℕ) (s : Spot) → slice_get store i ≡ Some (function p) → spot_of more (of_object i) ≡ Some s → IsNumbered after s p
    old_numbered i p s there e =
        let within : i < length places.objects = let inside = slice_get_within store i (function p) there in omega (arith, h.count, inside) in
        let was : spot_of places (of_object i) ≡ Some s =
        ap spot_in (sym (ap (λ os. slice_get os i) longer.objects.begins ∙ front_same places.objects longer.objects.added i within)) ∙ e in
        number_kept before after s p (words_grown before after s h.aligned grown (h.spots (of_object i) s was)) (numbered.each i p s there was)

    -- where no function is made
    pub none_numbered : (os : List Object) → NoFunctions os → AreNumbered more (store ++ os) after
    none_numbered os none = record { each = λ i p s there e. by i p s e (front_or_behind store os i (function p) there) }
      where
        by : (i p : ℕ) (s : Spot) → spot_of more (of_object i) ≡ Some s → FrontOrBehind store os i (function p) → IsNumbered after s p
        by i p s e (at_front there) = old_numbered i p s there e
        by i p s e (further j same there) = absurd (none_at os j p none there)
