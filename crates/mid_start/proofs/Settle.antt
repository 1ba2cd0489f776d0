-- An object that was in the store without a spot gets one, behind all that is laid.
use Rattle.std.proofs.Common.{◌≡◌, ℕ, ◌+◌, ◌<◌, ◌≤◌, true, false, List, length, Some, None, refl, sym, ◌∙◌, ap, subst, length-append, eq-eqb, arith}
use Rattle.std.specs.Prelude.{slice_get, slice_set}
use Rattle.std.proofs.Math.ListN.{length-set}
use Rattle.std.proofs.lemmas.Option.{slice_get_within}
use Rattle.lang_meaning.specs.declared.program.ProgramRows.{ProgramRows}
use Rattle.lang_meaning.specs.Values.{Value, integer, character, symbol, nil, object}
use Rattle.lang_meaning.specs.Objects.{Object, function}
use Rattle.mid_arena.specs.Places.{Spot, end_of, Places, Owner, of_object, of_symbol, of_other, same_owner, spot_in, spot_of, pointer_in, word_of}
use Rattle.mid_arena.specs.Standing.{of_laid, SpotStands, Apart, in_front, behind, SameWords}
use Rattle.mid_arena.specs.Layouts.{ObjectAt}
use Rattle.mid_arena.proofs.Keeping.{spot_in_tells, pointer_tells, PlacesExtend, symbol_kept, object_kept}
use Rattle.mid_arena.proofs.Owners.{SetOrNot, at_place, elsewhere, set_or_not}
use Rattle.mid_start.specs.declared.words.ArenaWords.{ArenaWords}
use Rattle.mid_start.specs.LaidArena.{end_address, arena_of}
use Rattle.mid_start.specs.LaidWell.{LaidWell}
use Rattle.mid_arena.proofs.Lists.{set_here, set_elsewhere}
use Rattle.mid_start.proofs.LaidWords.{Appended, appended_grown, spot_among, spot_grown, words_grown}
use Rattle.mid_start.proofs.Joining.{OneOwnerMore, as_before, joined}
use Rattle.mid_start.proofs.Made.{spot_behind}
use Rattle.mid_start.specs.Making.{IsNumbered, AreNumbered}
use Rattle.mid_start.specs.Settling.{StillWords, Settled}
use Rattle.mid_start.proofs.Numbered.{IsNoFunction, number_kept}

-- with a spot for an object that is there
abbrev pub with_spot : ℕ → Spot → Places → Places
with_spot i s places = record places { objects = slice_set places.objects i (Some s) }

pub extends_of : (before after : Places) → StillWords before after → PlacesExtend before after
extends_of before after h = record { word = h.word }

pub still_of : (before after : Places) → PlacesExtend before after → StillWords before after
still_of before after h = record { word = h.word }

module _
    (names : List (List ℕ)) (program : ProgramRows) (places : Places) (store : List Object) (before after : ArenaWords) (i : ℕ) (o : Object) (ws : List ℕ) (tag : ℕ)
    (h : LaidWell names program places store before) (stored : slice_get store i ≡ Some o) (none : slice_get places.objects i ≡ Some None)
    (more : Appended before after ws) (some : 1 ≤ length ws) (small : tag < 4)
  where
    abbrev new : Spot
    new = spot_behind before (length ws) tag

    abbrev now : Places
    now = with_spot i new places

    cases : (p : Owner) (found : Spot) → spot_of now p ≡ Some found → OneOwnerMore places (of_object i) new p found
    cases (of_symbol v) found e = as_before e
    cases (of_other n) found e = as_before e
    cases (of_object j) found e = by (set_or_not places.objects i (Some new) j (Some found) (spot_in_tells _ found e))
      where
        by : SetOrNot places.objects i (Some new) j (Some found) → OneOwnerMore places (of_object i) new (of_object j) found
        by (at_place same is) = joined (ap of_object same) (cc is)
        by (elsewhere other there) = as_before (ap spot_in there)

    -- an owner with a spot keeps it
    spot_stays : (p : Owner) (r : Spot) → spot_of places p ≡ Some r → spot_of now p ≡ Some r
    spot_stays (of_symbol v) r e = e
    spot_stays (of_other n) r e = e
    spot_stays (of_object j) r e =
        ap spot_in (set_elsewhere places.objects i j (Some new) (λ same. absurd (apart same))) ∙ e
      where
        apart : i ≡ j → ⊥
        apart same =
            let there : slice_get places.objects j ≡ Some (Some r) = spot_in_tells _ r e in
            let gone : slice_get places.objects j ≡ Some None = ap (slice_get places.objects) (sym same) ∙ none in
            cc

    pub words_stay : PlacesExtend places now
    words_stay = record { word = kept }
      where
        kept : (v : Value) (w : ℕ) → word_of places v ≡ Some w → word_of now v ≡ Some w
        kept (integer n) w e = e
        kept (character c) w e = e
        kept nil w e = e
        kept (symbol v) w e = e
        kept (object j) w e =
            let p = pointer_tells (spot_of places (of_object j)) w e in
            ap pointer_in (spot_stays (of_object j) p.spot p.found) ∙ cc p.word

    same_words : (p : Owner) (one : Spot) → spot_of places p ≡ Some one → SameWords (arena_of before) (arena_of after) one
    same_words p one e = words_grown before after one h.aligned (appended_grown before after ws more) (h.spots p one e)

    object_stays :
        (j : ℕ) (p : Object) (one : Spot) → slice_get store j ≡ Some p → spot_of places (of_object j) ≡ Some one
        → ObjectAt names program now (arena_of after) one p
    object_stays j p one there e =
        object_kept (arena_of before) (arena_of after) one (same_words (of_object j) one e) places now words_stay names program p (h.objects j p one there e)

    count : length after.words ≡ length before.words + length ws
    count = ap length more.words ∙ length-append before.words ws

    new_stands : SpotStands (arena_of after) new
    new_stands = record { aligned = omega (arith, h.aligned); some = some; tag = small; part = of_laid (omega (arith, more.first)) (omega (arith, more.first, count)) }

    spots_stand : (p : Owner) (found : Spot) → OneOwnerMore places (of_object i) new p found → SpotStands (arena_of after) found
    spots_stand p found (as_before e) = spot_grown before after found (appended_grown before after ws more) (h.spots p found e)
    spots_stand p found (joined e same) = rw same new_stands

    -- the old spots end where the new one begins
    old_in_front : (p : Owner) (old : Spot) → spot_of places p ≡ Some old → end_of old ≤ end_address before
    old_in_front p old e = let among = spot_among before old (h.spots p old e) in among.high

    spots_apart :
        (p q : Owner) (first second : Spot) → same_owner p q ≡ false → OneOwnerMore places (of_object i) new p first → OneOwnerMore places (of_object i) new q second → Apart first second
    spots_apart p q first second different (as_before d) (as_before e) = h.apart p q first second different d e
    spots_apart p q first second different (as_before d) (joined e same) = rw same (in_front (old_in_front p first d))
    spots_apart p q first second different (joined d same) (as_before e) = rw same (behind (old_in_front q second e))
    spots_apart p q first second different (joined d same) (joined e also) =
        let self : same_owner p q ≡ true = rw (d, e) (eq-eqb i i refl) in
        absurd (cc)

    pub settled_well : ObjectAt names program now (arena_of after) new o → LaidWell names program now store after
    settled_well made = record {
      aligned = rw more.first h.aligned;
      spots = λ p found e. spots_stand p found (cases p found e);
      apart = λ p q first second different d e. spots_apart p q first second different (cases p first d) (cases q second e);
      count = length-set places.objects i (Some new) ∙ h.count;
      objects = λ j p found there e. by j p found there (cases (of_object j) found e);
      symbols = λ v found e.
          let at = h.symbols v found e in
          symbol_kept (arena_of before) (arena_of after) found (same_words (of_symbol v) found e) v at;
      listed = rw more.symbols h.listed;
      once = h.once;
    }
      where
        by : (j : ℕ) (p : Object) (found : Spot) → slice_get store j ≡ Some p → OneOwnerMore places (of_object i) new (of_object j) found → ObjectAt names program now (arena_of after) found p
        by j p found there (as_before e) = object_stays j p found there e
        by j p found there (joined e same) =
            let number : j ≡ i = cc in
            let got : Some p ≡ Some o = sym there ∙ ap (slice_get store) number ∙ stored in
            let object_same : p ≡ o = cc in
            rw (same, object_same) made

    -- it has the word that points there, and the others that wait still do
    pub settled : (w : ℕ) → ObjectAt names program now (arena_of after) new o → IsNoFunction o → w ≡ end_address before + tag → Settled names program places store i before after w
    settled w made no_function word = record {
      places_after = now;
      words = still_of places now words_stay;
      waiting = λ j other e. set_elsewhere places.objects i j (Some new) (λ same. other (sym same)) ∙ e;
      others = refl;
      stands = settled_well made;
      of_object =
          ap (λ x. pointer_in (spot_in x)) (set_here places.objects i (Some new) (slice_get_within places.objects i None none))
          ∙ ap (λ n. Some n) (sym word);
      numbered = λ numbered. record { each = λ j p s there e. by numbered j p s there (cases (of_object j) s e) };
    }
      where
        by : AreNumbered places store before → (j p : ℕ) (s : Spot) → slice_get store j ≡ Some (function p) → OneOwnerMore places (of_object i) new (of_object j) s → IsNumbered after s p
        by numbered j p s there (as_before e) = number_kept before after s p (same_words (of_object j) s e) (numbered.each j p s there e)
        by numbered j p s there (joined e same) =
            let number : j ≡ i = cc in
            let got : Some o ≡ Some (function p) = sym stored ∙ ap (slice_get store) (sym number) ∙ there in
            let is : o ≡ function p = cc in
            absurd (subst IsNoFunction is no_function)
