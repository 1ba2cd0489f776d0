-- One owner more has a spot, behind all others.
use Rattle.std.proofs.Common.{◌≡◌, ℕ, zero, suc, ◌+◌, ◌<◌, ◌≤◌, Bool, true, false, List, [], ◌∷◌, ◌++◌, length, Option, Some, None, refl, sym, ◌∙◌, ap, length-append, arith}
use Rattle.std.specs.Prelude.{◌==◌, ◌&&◌, if◌then◌else◌, slice_get}
use Rattle.std.proofs.lemmas.Slice.Eq.{bytes_eq-Decides}
use Rattle.std.proofs.lemmas.Bool.Decides.{nat_tests}
use Rattle.std.proofs.lemmas.Option.{slice_get_within}
use Rattle.lang_meaning.specs.declared.program.ProgramRows.{ProgramRows}
use Rattle.lang_meaning.specs.Values.{SymbolValue, named, unnamed, same_symbol, Value, integer, character, symbol, nil, object}
use Rattle.lang_meaning.specs.Objects.{Object}
use Rattle.mid_arena.specs.Places.{Spot, end_of, Places, Owner, of_object, of_symbol, of_other, same_owner, spot_in, spot_of_symbol, spot_of, with_object, pointer_in, word_of}
use Rattle.mid_arena.specs.Standing.{of_laid, SpotStands, Apart, in_front, behind, AllApart, SameWords}
use Rattle.mid_arena.specs.Layouts.{ObjectAt, SymbolAt}
use Rattle.mid_arena.proofs.Keeping.{spot_in_tells, pointer_tells, PlacesExtend, symbol_kept, object_kept}
use Rattle.mid_arena.proofs.Owners.{FrontOrEnd, at_front, at_end, front_or_end, OldOrNew, of_old, of_new, new_object, old_or_new, object_within}
use Rattle.mid_start.specs.declared.symbol_words.SymbolWord.{SymbolWord}
use Rattle.mid_start.specs.declared.words.ArenaWords.{ArenaWords}
use Rattle.mid_start.specs.LaidArena.{end_address, arena_of}
use Rattle.mid_start.specs.LaidWell.{IsSymbolThere, AreSymbolsThere, AreDistinct, LaidWell}
use Rattle.mid_start.specs.Laying.{Grown, Longer}
use Rattle.mid_start.proofs.Lists.{beginning_same, beginning_more, beginning_both, item_stays}
use Rattle.mid_start.proofs.LaidWords.{spot_among, spot_grown, words_grown}

-- ---- places that only grow

pub longer_same : (places : Places) → Longer places places
longer_same places = record { objects = beginning_same places.objects; symbols = beginning_same places.symbols; others = refl }

pub longer_both : (first second third : Places) → Longer first second → Longer second third → Longer first third
longer_both first second third g h = record {
  objects = beginning_both first.objects second.objects third.objects g.objects h.objects;
  symbols = beginning_both first.symbols second.symbols third.symbols g.symbols h.symbols;
  others = h.others ∙ g.others;
}

pub longer_object : (s : Spot) (places : Places) → Longer places (with_object s places)
longer_object s places = record { objects = beginning_more places.objects (Some s ∷ []); symbols = beginning_same places.symbols; others = refl }

symbol_stays : (v : SymbolValue) (xs ys : List (SymbolValue × Spot)) (r : Spot) → spot_of_symbol v xs ≡ Some r → spot_of_symbol v (xs ++ ys) ≡ Some r
symbol_stays v [] ys r e = absurd (cc e)
symbol_stays v (x ∷ xs) ys r e = by (same_symbol v x.0) _ _ e (symbol_stays v xs ys r)
  where
    by : (b : Bool) (old new : Option Spot) → (if b then Some x.1 else old) ≡ Some r → (old ≡ Some r → new ≡ Some r) → (if b then Some x.1 else new) ≡ Some r
    by true old new h f = h
    by false old new h f = f h

-- an owner keeps its spot
pub spot_stays : (before after : Places) → Longer before after → (p : Owner) (r : Spot) → spot_of before p ≡ Some r → spot_of after p ≡ Some r
spot_stays before after g (of_object i) r e =
    ap spot_in (item_stays before.objects after.objects i (Some r) g.objects (spot_in_tells _ r e))
spot_stays before after g (of_symbol v) r e = rw g.symbols.begins (symbol_stays v before.symbols g.symbols.added r e)
spot_stays before after g (of_other n) r e = ap (λ xs. slice_get xs n) g.others ∙ e

-- and a value its word
pub extends_longer : (before after : Places) → Longer before after → PlacesExtend before after
extends_longer before after g = record { word = kept }
  where
    kept : (v : Value) (w : ℕ) → word_of before v ≡ Some w → word_of after v ≡ Some w
    kept (integer n) w e = e
    kept (character c) w e = e
    kept nil w e = e
    kept (symbol v) w e =
        let p = pointer_tells (spot_of before (of_symbol v)) w e in
        ap pointer_in (spot_stays before after g (of_symbol v) p.spot p.found) ∙ cc p.word
    kept (object i) w e =
        let p = pointer_tells (spot_of before (of_object i)) w e in
        ap pointer_in (spot_stays before after g (of_object i) p.spot p.found) ∙ cc p.word

-- ---- owners

pub symbol_itself : (v : SymbolValue) → same_symbol v v ≡ true
symbol_itself (named a) = (bytes_eq-Decides a a).1 refl
symbol_itself (unnamed x s) = grind (arith, nat_tests)

owner_itself : (p : Owner) → same_owner p p ≡ true
owner_itself (of_object i) = grind (arith, nat_tests)
owner_itself (of_symbol v) = symbol_itself v
owner_itself (of_other n) = grind (arith, nat_tests)

both_tests : (a b : Bool) → (a && b) ≡ true → (a ≡ true) × (b ≡ true)
both_tests true b h = (refl, h)
both_tests false b h = absurd (cc h)

-- symbols that are one
pub symbol_told : (v r : SymbolValue) → same_symbol v r ≡ true → v ≡ r
symbol_told (named a) (named b) e = ap named ((bytes_eq-Decides a b).0 e)
symbol_told (named a) (unnamed x s) e = absurd (cc e)
symbol_told (unnamed x s) (named b) e = absurd (cc e)
symbol_told (unnamed x s) (unnamed y r) e =
    let both : ((x == y) ≡ true) × ((s == r) ≡ true) = both_tests _ _ e in
    let first : x ≡ y = grind (arith, nat_tests) in
    let second : s ≡ r = grind (arith, nat_tests) in
    rw (first, second) refl

-- ---- one owner more

pub data OneOwnerMore (places : Places) (owner : Owner) (s : Spot) (p : Owner) (found : Spot) : Type 0 where
  as_before : spot_of places p ≡ Some found → OneOwnerMore places owner s p found
  joined : p ≡ owner → found ≡ s → OneOwnerMore places owner s p found

pub record Joins (places more : Places) (owner : Owner) (s : Spot) : Type 0 where
  pub longer : Longer places more
  pub cases : (p : Owner) (found : Spot) → spot_of more p ≡ Some found → OneOwnerMore places owner s p found

pub joins_object : (s : Spot) (places : Places) → Joins places (with_object s places) (of_object (length places.objects)) s
joins_object s places = record { longer = longer_object s places; cases = λ p found e. by p found (old_or_new s places p found e) }
  where
    by : (p : Owner) (found : Spot) → OldOrNew s places (new_object places) p found → OneOwnerMore places (of_object (length places.objects)) s p found
    by p found (of_old e) = as_before e
    by p found (of_new e same) = joined e same

abbrev pub with_symbol : SymbolValue → Spot → Places → Places
with_symbol v s places = record places { symbols = places.symbols ++ (v, s) ∷ [] }

pub longer_symbol : (v : SymbolValue) (s : Spot) (places : Places) → Longer places (with_symbol v s places)
longer_symbol v s places = record { objects = beginning_same places.objects; symbols = beginning_more places.symbols ((v, s) ∷ []); others = refl }

-- the spot of a symbol where there is one symbol more
pub data SymbolOneMore (xs : List (SymbolValue × Spot)) (v : SymbolValue) (s : Spot) (r : SymbolValue) (found : Spot) : Type 0 where
  in_list : spot_of_symbol r xs ≡ Some found → SymbolOneMore xs v s r found
  the_new : r ≡ v → found ≡ s → SymbolOneMore xs v s r found

symbol_one_more :
    (xs : List (SymbolValue × Spot)) (v : SymbolValue) (s : Spot) (r : SymbolValue) (found : Spot)
    → spot_of_symbol r (xs ++ (v, s) ∷ []) ≡ Some found → SymbolOneMore xs v s r found
symbol_one_more [] v s r found e = by (same_symbol r v) refl e
  where
    by : (b : Bool) → same_symbol r v ≡ b → (if b then Some s else None) ≡ Some found → SymbolOneMore [] v s r found
    by true is h = the_new (symbol_told r v is) (cc h)
    by false is h = absurd (cc h)
symbol_one_more (x ∷ xs) v s r found e = by (same_symbol r x.0) refl e (symbol_one_more xs v s r found)
  where
    further : same_symbol r x.0 ≡ false → SymbolOneMore xs v s r found → SymbolOneMore (x ∷ xs) v s r found
    further is (in_list h) = in_list (ap (λ b. if b then Some x.1 else spot_of_symbol r xs) is ∙ h)
    further is (the_new h same) = the_new h same

    by : (b : Bool) → same_symbol r x.0 ≡ b → (if b then Some x.1 else spot_of_symbol r (xs ++ (v, s) ∷ [])) ≡ Some found
        → (spot_of_symbol r (xs ++ (v, s) ∷ []) ≡ Some found → SymbolOneMore xs v s r found) → SymbolOneMore (x ∷ xs) v s r found
    by true is h f = in_list (ap (λ b. if b then Some x.1 else spot_of_symbol r xs) is ∙ h)
    by false is h f = further is (f h)

pub joins_symbol : (v : SymbolValue) (s : Spot) (places : Places) → Joins places (with_symbol v s places) (of_symbol v) s
joins_symbol v s places = record { longer = longer_symbol v s places; cases = cases }
  where
    by : (r : SymbolValue) (found : Spot) → SymbolOneMore places.symbols v s r found → OneOwnerMore places (of_symbol v) s (of_symbol r) found
    by r found (in_list e) = as_before e
    by r found (the_new e same) = joined (ap of_symbol e) same

    cases : (p : Owner) (found : Spot) → spot_of (with_symbol v s places) p ≡ Some found → OneOwnerMore places (of_symbol v) s p found
    cases (of_object i) found e = as_before e
    cases (of_other n) found e = as_before e
    cases (of_symbol r) found e = by r found (symbol_one_more places.symbols v s r found e)

-- the spot of the new symbol, where it had none
pub new_symbol_found : (v : SymbolValue) (s : Spot) (xs : List (SymbolValue × Spot)) → spot_of_symbol v xs ≡ None → spot_of_symbol v (xs ++ (v, s) ∷ []) ≡ Some s
new_symbol_found v s [] e = ap (λ b. if b then Some s else None) (symbol_itself v)
new_symbol_found v s (x ∷ xs) e = by (same_symbol v x.0) _ _ e (new_symbol_found v s xs)
  where
    by : (b : Bool) (old new : Option Spot) → (if b then Some x.1 else old) ≡ None → (old ≡ None → new ≡ Some s) → (if b then Some x.1 else new) ≡ Some s
    by true old new h f = absurd (cc h)
    by false old new h f = f h

-- a choice that comes to nothing
chosen_none : (b : Bool) (r : Spot) (rest : Option Spot) → (if b then Some r else rest) ≡ None → (b ≡ false) × (rest ≡ None)
chosen_none true r rest e = absurd (cc e)
chosen_none false r rest e = (refl, e)

-- a symbol that has no spot is none of those that have one
not_there :
    (v : SymbolValue) (xs : List (SymbolValue × Spot)) (i : ℕ) (x : SymbolValue × Spot) → spot_of_symbol v xs ≡ None → slice_get xs i ≡ Some x
    → x.0 ≡ v → ⊥
not_there v [] i x none at same = absurd (cc at)
not_there v (y ∷ ys) zero x none at same =
    let other : same_symbol v y.0 ≡ false = (chosen_none (same_symbol v y.0) y.1 _ none).0 in
    let one : y.0 ≡ v = ap (λ (z : SymbolValue × Spot). z.0) (got y x at) ∙ same in
    let itself : same_symbol v y.0 ≡ true = rw one (symbol_itself v) in
    absurd (cc)
  where
    got : (a b : SymbolValue × Spot) → ◌≡◌ {A = Option (SymbolValue × Spot)} (Some a) (Some b) → a ≡ b
    got a b e = cc e
not_there v (y ∷ ys) (suc i) x none at same = not_there v ys i x (chosen_none (same_symbol v y.0) y.1 _ none).1 at same

-- so with it they are distinct
distinct_and_one :
    (v : SymbolValue) (s : Spot) (xs : List (SymbolValue × Spot)) → AreDistinct xs → spot_of_symbol v xs ≡ None → AreDistinct (xs ++ (v, s) ∷ [])
distinct_and_one v s xs once absent i j p q first second same = by (front_or_end xs (v, s) i p first) (front_or_end xs (v, s) j q second)
  where
    by : FrontOrEnd xs (v, s) i p → FrontOrEnd xs (v, s) j q → i ≡ j
    by (at_front d) (at_front e) = once i j p q d e same
    by (at_front d) (at_end e is) = absurd (not_there v xs i p absent d (same ∙ ap (λ (z : SymbolValue × Spot). z.0) is))
    by (at_end d is) (at_front e) = absurd (not_there v xs j q absent e (sym same ∙ ap (λ (z : SymbolValue × Spot). z.0) is))
    by (at_end d is) (at_end e is') = d ∙ sym e

module _
    (names : List (List ℕ)) (program : ProgramRows) (places more : Places) (store : List Object) (before after : ArenaWords) (owner : Owner) (s : Spot)
    (h : LaidWell names program places store before) (g : Grown before after) (j : Joins places more owner s)
    (address : s.address ≡ end_address before) (high : end_of s ≤ end_address after) (some : 1 ≤ s.words) (tag : s.tag < 4)
  where
    kept : (p : Owner) (one : Spot) → spot_of places p ≡ Some one → SameWords (arena_of before) (arena_of after) one
    kept p one e = words_grown before after one h.aligned g (h.spots p one e)

    object_stays :
        (i : ℕ) (o : Object) (one : Spot) → slice_get store i ≡ Some o → spot_of places (of_object i) ≡ Some one
        → ObjectAt names program more (arena_of after) one o
    object_stays i o one stored e =
        object_kept (arena_of before) (arena_of after) one (kept (of_object i) one e) places more (extends_longer places more j.longer) names program o
        (h.objects i o one stored e)

    symbol_at_stays : (v : SymbolValue) (one : Spot) → spot_of places (of_symbol v) ≡ Some one → SymbolAt (arena_of after) one v
    symbol_at_stays v one e = symbol_kept (arena_of before) (arena_of after) one (kept (of_symbol v) one e) v (h.symbols v one e)

    new_stands : SpotStands (arena_of after) s
    new_stands = record {
      aligned = omega (arith, h.aligned);
      some = some;
      tag = tag;
      part = of_laid (omega (arith, g.first)) high;
    }

    spots_stand : (p : Owner) (found : Spot) → OneOwnerMore places owner s p found → SpotStands (arena_of after) found
    spots_stand p found (as_before e) = spot_grown before after found g (h.spots p found e)
    spots_stand p found (joined e same) = rw same new_stands

    -- the old spots end where the new one begins
    old_in_front : (p : Owner) (old : Spot) → spot_of places p ≡ Some old → end_of old ≤ s.address
    old_in_front p old e = let among = spot_among before old (h.spots p old e) in omega (arith, among.high)

    spots_apart :
        (p q : Owner) (first second : Spot) → same_owner p q ≡ false → OneOwnerMore places owner s p first → OneOwnerMore places owner s q second → Apart first second
    spots_apart p q first second different (as_before d) (as_before e) = h.apart p q first second different d e
    spots_apart p q first second different (as_before d) (joined e same) = rw same (in_front (old_in_front p first d))
    spots_apart p q first second different (joined d same) (as_before e) = rw same (behind (old_in_front q second e))
    spots_apart p q first second different (joined d same) (joined e same') =
        let self : same_owner p q ≡ true = rw (d, e) (owner_itself owner) in
        absurd (cc)

    all_apart : AllApart more
    all_apart p q first second different d e = spots_apart p q first second different (j.cases p first d) (j.cases q second e)

    pub object_laid :
        (o : Object) → owner ≡ of_object (length places.objects) → length more.objects ≡ length places.objects + 1
        → more.symbols ≡ places.symbols → after.symbols ≡ before.symbols
        → ObjectAt names program more (arena_of after) s o → LaidWell names program more (store ++ o ∷ []) after
    object_laid o own count same_places same_symbols made = record {
      aligned = rw g.first h.aligned;
      spots = λ p found e. spots_stand p found (j.cases p found e);
      apart = all_apart;
      count = omega (arith, count, h.count, length-append store (o ∷ []));
      objects = λ i one found stored e. by i one found (front_or_end store o i one stored) (j.cases (of_object i) found e);
      symbols = λ v found e. symbol_at_stays v found (ap (spot_of_symbol v) (sym same_places) ∙ e);
      listed = rw (same_places, same_symbols) h.listed;
      once = rw same_places h.once;
    }
      where
        by : (i : ℕ) (one : Object) (found : Spot) → FrontOrEnd store o i one → OneOwnerMore places owner s (of_object i) found
            → ObjectAt names program more (arena_of after) found one
        by i one found (at_front d) (as_before e) = object_stays i one found d e
        by i one found (at_front d) (joined e same) =
            let within = slice_get_within store i one d in
            let last : of_object i ≡ of_object (length places.objects) = e ∙ own in
            let number : i ≡ length places.objects = cc in
            absurd (omega (arith, h.count))
        by i one found (at_end d same) (as_before e) = let within = object_within places i found e in absurd (omega (arith, h.count))
        by i one found (at_end d same) (joined e at) = rw (same, at) made

    pub symbol_laid :
        (v : SymbolValue) (x : SymbolWord) → owner ≡ of_symbol v → more.objects ≡ places.objects → more.symbols ≡ places.symbols ++ (v, s) ∷ []
        → after.symbols ≡ before.symbols ++ x ∷ [] → spot_of_symbol v places.symbols ≡ None → IsSymbolThere names x v s
        → SymbolAt (arena_of after) s v → LaidWell names program more store after
    symbol_laid v x own same_objects more_symbols more_listed absent there made = record {
      aligned = rw g.first h.aligned;
      spots = λ p found e. spots_stand p found (j.cases p found e);
      apart = all_apart;
      count = ap length same_objects ∙ h.count;
      objects = λ i one found stored e. object_stays i one found stored (ap (λ xs. spot_in (slice_get xs i)) (sym same_objects) ∙ e);
      symbols = λ r found e. by r found (j.cases (of_symbol r) found e);
      listed = rw (more_symbols, more_listed) (one_more before.symbols places.symbols h.listed);
      once = rw more_symbols (distinct_and_one v s places.symbols h.once absent);
    }
      where
        by : (r : SymbolValue) (found : Spot) → OneOwnerMore places owner s (of_symbol r) found → SymbolAt (arena_of after) found r
        by r found (as_before e) = symbol_at_stays r found e
        by r found (joined e same) =
            let symbols : of_symbol r ≡ of_symbol v = e ∙ own in
            let one : r ≡ v = cc in
            rw (one, same) made

        one_more : (xs : List SymbolWord) (ps : List (SymbolValue × Spot)) → AreSymbolsThere names xs ps → AreSymbolsThere names (xs ++ x ∷ []) (ps ++ (v, s) ∷ [])
        one_more [] [] all = (there, tt)
        one_more [] (p ∷ ps) all = absurd all
        one_more (y ∷ ys) [] all = absurd all
        one_more (y ∷ ys) (p ∷ ps) all = (all.0, one_more ys ps all.1)
