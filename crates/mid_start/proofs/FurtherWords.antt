-- Further words of a program's own, laid behind all that was there before the first form.
use Rattle.std.proofs.Common.{◌≡◌, ℕ, zero, suc, ◌+◌, ◌*◌, ◌≤◌, true, false, List, [], ◌∷◌, ◌++◌, length, Some, refl, sym, ◌∙◌, ap, subst, lit<, length-append, append-nil, arith}
use Rattle.lang_meaning.specs.declared.program.ProgramRows.{ProgramRows}
use Rattle.lang_meaning.specs.Objects.{Object}
use Rattle.lang_meaning.specs.InitialHeap.{objects_at_start, class_value, function_value, literal_value}
use Rattle.mid_arena.specs.FixedWords.{low_address, FixedStand}
use Rattle.mid_arena.specs.Places.{Spot, end_of, Places, Owner, of_object, of_symbol, of_other, same_owner, spot_of, with_other}
use Rattle.mid_arena.specs.Standing.{of_laid, SpotStands, Apart, in_front, behind, SameWords}
use Rattle.mid_arena.proofs.Keeping.{symbol_kept, object_kept}
use Rattle.mid_arena.proofs.Owners.{OldOrNew, of_old, of_new, new_other, old_or_other, same_number}
use Rattle.mid_arena.proofs.OwnWords.{old_spot_beside, word_beside, extends_other}
use Rattle.mid_arena.proofs.Representing.{fixed_kept}
use Rattle.mid_start.specs.declared.words.ArenaWords.{ArenaWords}
use Rattle.mid_start.specs.declared.static_data.StaticData.{StaticData}
use Rattle.mid_start.specs.LaidArena.{end_address, arena_of}
use Rattle.mid_start.specs.LaidWell.{LaidWell}
use Rattle.mid_start.specs.Laying.{Grown}
use Rattle.mid_start.specs.StaticData.{fixed_spot, spot_for, own_spots, OwnWordsAt, IsStaticData}
use Rattle.mid_start.proofs.LaidWords.{Appended, appended_grown, spot_among, spot_grown, words_grown, word_behind}
use Rattle.mid_start.proofs.Numbered.{number_kept}
use Rattle.mid_start.proofs.OwnSpots.{own_words_kept}

-- ---- laid words with a spot more behind them

module _
    (names : List (List ℕ)) (program : ProgramRows) (places : Places) (store : List Object) (before after : ArenaWords) (further : List ℕ)
    (h : LaidWell names program places store before) (appended : Appended before after further) (some : 1 ≤ length further)
  where
    abbrev pub further_spot : Spot
    further_spot = record { address = end_address before; words = length further; tag = 0 }

    abbrev pub further_places : Places
    further_places = with_other further_spot places

    grown : Grown before after
    grown = appended_grown before after further appended

    pub kept : (p : Owner) (one : Spot) → spot_of places p ≡ Some one → SameWords (arena_of before) (arena_of after) one
    kept p one e = words_grown before after one h.aligned grown (h.spots p one e)

    pub further_end : end_address before + 4 * length further ≡ end_address after
    further_end = omega (arith, appended.first, ap (λ ws. length ws) appended.words, length-append before.words further)

    further_stands : SpotStands (arena_of after) further_spot
    further_stands = record {
      aligned = omega (arith, h.aligned);
      some = some;
      tag = lit< tt;
      part = of_laid (omega (arith, appended.first)) (omega (arith, further_end));
    }

    spots_stand : (p : Owner) (found : Spot) → OldOrNew further_spot places (new_other places) p found → SpotStands (arena_of after) found
    spots_stand p found (of_old e) = spot_grown before after found grown (h.spots p found e)
    spots_stand p found (of_new e same) = rw same further_stands

    -- the old spots end where the new one begins
    old_in_front : (p : Owner) (old : Spot) → spot_of places p ≡ Some old → end_of old ≤ end_address before
    old_in_front p old e = let among = spot_among before old (h.spots p old e) in among.high

    spots_apart :
        (p q : Owner) (first second : Spot) → same_owner p q ≡ false → OldOrNew further_spot places (new_other places) p first
        → OldOrNew further_spot places (new_other places) q second → Apart first second
    spots_apart p q first second different (of_old d) (of_old e) = h.apart p q first second different d e
    spots_apart p q first second different (of_old d) (of_new e same) = rw same (in_front (old_in_front p first d))
    spots_apart p q first second different (of_new d same) (of_old e) = rw same (behind (old_in_front q second e))
    spots_apart p q first second different (of_new d same) (of_new e same') =
        let self : same_owner p q ≡ true = rw (d, e) (same_number (length places.others)) in
        absurd (cc (self, different))

    pub further_laid : LaidWell names program further_places store after
    further_laid = record {
      aligned = rw appended.first h.aligned;
      spots = λ p found e. spots_stand p found (old_or_other further_spot places p found e);
      apart = λ p q first second different d e.
          spots_apart p q first second different (old_or_other further_spot places p first d) (old_or_other further_spot places q second e);
      count = h.count;
      objects = λ i o found stored e.
          object_kept (arena_of before) (arena_of after) found (kept (of_object i) found e) places further_places (extends_other further_spot places) names program o
          (h.objects i o found stored e);
      symbols = λ v found e. symbol_kept (arena_of before) (arena_of after) found (kept (of_symbol v) found e) v (h.symbols v found e);
      listed = rw appended.symbols h.listed;
      once = h.once;
    }

-- ---- all that is there before the first form

-- with no word behind
spot_for_some : (at n : ℕ) → 1 ≤ n → spot_for at n ≡ record { address = at; words = n; tag = 0 } ∷ []
spot_for_some at zero h = absurd (omega arith)
spot_for_some at (suc n) h = refl

abbrev pub with_arena : ArenaWords → StaticData → StaticData
with_arena words data_there = record data_there { arena = words }

module _
    (names : List (List ℕ)) (program : ProgramRows) (low further : List ℕ) (start : StaticData) (after : ArenaWords)
    (old : IsStaticData names program low [] start) (appended : Appended start.arena after further)
  where
    -- some words
    more_words : 1 ≤ length further → IsStaticData names program low further (with_arena after start)
    more_words some = record {
      places = further_places names program old.places (objects_at_start names program) start.arena after further old.stands appended some;
      first = appended.first ∙ old.first;
      further_at = end_address start.arena;
      further_end = further_end names program old.places (objects_at_start names program) start.arena after further old.stands appended some;
      others = others;
      own = record { low_words = low_there.low_words; further_words = λ i w there. word_behind start.arena after further i w old.stands.aligned appended.first appended.words there };
      no_nil = old.no_nil;
      stands = further_laid names program old.places (objects_at_start names program) start.arena after further old.stands appended some;
      fixed = λ left.
          let fixed : FixedStand names program old.places (arena_of start.arena) 0 [] left left = old.fixed left in
          fixed_kept names program old.places (with_other spot old.places) (arena_of start.arena) (arena_of after) 0 [] left left (extends_other spot old.places)
          (old_spot_beside spot old.places (of_other 0) fixed_spot fixed.spot ∙ sym fixed.spot) (stays (of_other 0) fixed_spot fixed.spot) fixed;
      all = λ i h. let was = old.all i h in record { word = was.word; of_value = was.of_value };
      numbered = record {
        each = λ i p s there e. number_kept start.arena after s p (stays (of_object i) s e) (old.numbered.each i p s there e);
      };
      class_count = old.class_count;
      function_count = old.function_count;
      literal_count = old.literal_count;
      class_words = λ class w there. word_beside spot old.places (class_value names program class) ∙ old.class_words class w there;
      function_words = λ name w there. word_beside spot old.places (function_value names program name) ∙ old.function_words name w there;
      literal_words = λ literal w d here there. word_beside spot old.places (literal_value names program literal d) ∙ old.literal_words literal w d here there;
    }
      where
        spot : Spot
        spot = record { address = end_address start.arena; words = length further; tag = 0 }

        stays : (p : Owner) (one : Spot) → spot_of old.places p ≡ Some one → SameWords (arena_of start.arena) (arena_of after) one
        stays = kept names program old.places (objects_at_start names program) start.arena after further old.stands appended some

        low_there : OwnWordsAt low [] old.further_at (arena_of after)
        low_there = own_words_kept low [] old.further_at old.places (arena_of start.arena) (arena_of after) old.others (λ n s e. stays (of_other n) s e) old.own

        others : old.places.others ++ spot ∷ [] ≡ own_spots low further (end_address start.arena)
        others =
            ap (λ ss. ss ++ spot ∷ []) (old.others ∙ ap (λ ss. fixed_spot ∷ ss) (append-nil (spot_for low_address (length low))))
            ∙ ap (λ ss. fixed_spot ∷ (spot_for low_address (length low) ++ ss)) (sym (spot_for_some (end_address start.arena) (length further) some))

    -- or none
    none_more : further ≡ [] → IsStaticData names program low further (with_arena after start)
    none_more e =
        subst (λ ws. IsStaticData names program low ws (with_arena after start)) (sym e)
        (subst (λ words. IsStaticData names program low [] (with_arena words start)) (sym same) old)
      where
        same : after ≡ start.arena
        same = λ i. record {
          first = appended.first i;
          words = (appended.words ∙ ap (λ ws. start.arena.words ++ ws) e ∙ append-nil start.arena.words) i;
          symbols = appended.symbols i;
        }

    pub with_further : IsStaticData names program low further (with_arena after start)
    with_further = by further refl
      where
        by : (ws : List ℕ) → further ≡ ws → IsStaticData names program low further (with_arena after start)
        by [] e = none_more e
        by (w ∷ ws) e = more_words (omega (arith, ap (λ l. length l) e))
