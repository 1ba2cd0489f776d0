-- More symbols behind all that was laid: the words before the first form are those still.
use Rattle.std.proofs.Common.{◌≡◌, ℕ, ◌<◌, Bool, true, false, List, [], ◌∷◌, ◌++◌, length, Some, refl, sym, ◌∙◌, ap, subst, append-nil, arith, ⊎_elim}
use Rattle.std.specs.Prelude.{slice_get, if◌then◌else◌}
use Rattle.base.specs.Names.{IsTable, slice_get-push}
use Rattle.base.specs.declared.datum.Name.{Name}
use Rattle.base.specs.declared.datum.Symbol.{Symbol}
use Rattle.base.specs.declared.datum.Symbol.TheVariants.{Named}
use Rattle.lang_meaning.specs.declared.program.ProgramRows.{ProgramRows}
use Rattle.lang_meaning.specs.Objects.{Object}
use Rattle.lang_meaning.specs.Values.{object}
use Rattle.lang_meaning.specs.InitialHeap.{objects_at_start, class_value, function_value, literal_value}
use Rattle.mid_arena.specs.FixedWords.{nil_text, FixedStand}
use Rattle.mid_arena.specs.Places.{Spot, Places, Owner, of_other, spot_of}
use Rattle.mid_arena.specs.Standing.{SameWords}
use Rattle.mid_arena.proofs.Keeping.{PlacesExtend}
use Rattle.mid_arena.proofs.Representing.{fixed_kept}
use Rattle.mid_start.specs.declared.symbol_words.SymbolWord.{SymbolWord}
use Rattle.mid_start.specs.declared.words.ArenaWords.{ArenaWords}
use Rattle.mid_start.specs.declared.static_data.StaticData.{StaticData}
use Rattle.mid_start.specs.LaidArena.{end_address, arena_of}
use Rattle.mid_start.specs.LaidWell.{LaidWell}
use Rattle.mid_start.specs.Laying.{Grown}
use Rattle.mid_start.specs.Lists.{IsBeginning}
use Rattle.mid_start.specs.Making.{IsWord, AreNumbered, Makes}
use Rattle.mid_start.specs.NamedSymbols.{HaveSymbols, StandsWith, LaysSymbols}
use Rattle.mid_start.specs.Recipes.{name_recipe}
use Rattle.mid_start.specs.StaticData.{fixed_spot, OwnWordsAt, IsStaticData}
use Rattle.mid_start.specs.Symbols.{is_same_symbol, word_of_symbol}
use Rattle.mid_start.proofs.FixedFront.{no_nil_there}
use Rattle.mid_start.proofs.FurtherWords.{with_arena}
use Rattle.mid_start.proofs.Joining.{longer_both, extends_longer}
use Rattle.mid_start.proofs.LaidWords.{grown_both, words_grown}
use Rattle.mid_start.proofs.MadeSymbols.{found_word}
use Rattle.mid_start.proofs.Numbered.{none_numbered}
use Rattle.mid_start.proofs.OwnSpots.{own_words_kept}

-- ---- a symbol that was found is found among more

found_more : (s : Symbol) (xs ys : List SymbolWord) (w : ℕ) → word_of_symbol s xs ≡ Some w → word_of_symbol s (xs ++ ys) ≡ Some w
found_more s [] ys w e = absurd (cc e)
found_more s (x ∷ xs) ys w e = by (is_same_symbol s x.symbol) e (λ later. found_more s xs ys w later)
  where
    by : (b : Bool) → (if b then Some x.word else word_of_symbol s xs) ≡ Some w → (word_of_symbol s xs ≡ Some w → word_of_symbol s (xs ++ ys) ≡ Some w)
        → (if b then Some x.word else word_of_symbol s (xs ++ ys)) ≡ Some w
    by true e more = e
    by false e more = more e

found_later : (s : Symbol) (xs ys : List SymbolWord) (w : ℕ) → IsBeginning xs ys → word_of_symbol s xs ≡ Some w → word_of_symbol s ys ≡ Some w
found_later s xs ys w g e = ap (word_of_symbol s) g.begins ∙ found_more s xs g.added w e

-- ---- none, and one more

pub none_laid : (names : List (List ℕ)) (words : ArenaWords) → LaysSymbols names [] words words
none_laid names words = record {
  grown = record {
    first = refl;
    words = record { added = []; begins = sym (append-nil words.words) };
    symbols = record { added = []; begins = sym (append-nil words.symbols) };
  };
  there = λ program places store h. record {
    places_after = places;
    longer = record {
      objects = record { added = []; begins = sym (append-nil places.objects) };
      symbols = record { added = []; begins = sym (append-nil places.symbols) };
      others = refl;
    };
    stands = h;
    have = record { each = λ i name e. absurd (cc e) };
  };
}

pub one_more_laid :
    (names : List (List ℕ)) (table : IsTable names) (done : List Name) (name : Name) (before mid after : ArenaWords) (w : ℕ) → name.0 < length names
    → LaysSymbols names done before mid → Grown mid after → Makes names IsWord (name_recipe names name) mid after w
    → LaysSymbols names (done ++ name ∷ []) before after
one_more_laid names table done name before mid after w below laid grown makes = record {
  grown = grown_both before mid after laid.grown grown;
  there = there;
}
  where
    there : (program : ProgramRows) (places : Places) (store : List Object) → LaidWell names program places store before
        → StandsWith names program places store (done ++ name ∷ []) after
    there program places store h =
        let first = laid.there program places store h in
        let made = makes.there program first.places_after store first.stands in
        let stands : LaidWell names program made.places_after store after =
        subst (λ os. LaidWell names program made.places_after os after) (append-nil store) made.stands in
        let here : word_of_symbol (Named name) after.symbols ≡ Some w =
        sym (found_word names table (Named name) below after.symbols made.places_after.symbols stands.listed) ∙ made.words in
        record {
          places_after = made.places_after;
          longer = longer_both places first.places_after made.places_after first.longer made.longer;
          stands = stands;
          have = record {
            each = λ i other e.
                ⊎_elim
                (λ (old : slice_get done i ≡ Some other).
                let was = first.have.each i other old in
                (was.0, found_later (Named other) mid.symbols after.symbols was.0 grown.symbols was.1))
                (λ (new : (i ≡ length done) × (name ≡ other)).
                (w, ap (λ n. word_of_symbol (Named n) after.symbols) (sym new.1) ∙ here))
                (slice_get-push done name i other e);
          };
        }

-- ---- all that is there before the first form

module _
    (names : List (List ℕ)) (program : ProgramRows) (low : List ℕ) (wanted : List Name) (start : StaticData) (after : ArenaWords)
    (no_nil : (i : ℕ) → slice_get names i ≡ Some nil_text → ⊥) (old : IsStaticData names program low [] start)
    (laid : LaysSymbols names wanted start.arena after)
  where
    abbrev added : StandsWith names program old.places (objects_at_start names program) wanted after
    added = laid.there program old.places (objects_at_start names program) old.stands

    abbrev places : Places
    places = added.places_after

    extends : PlacesExtend old.places places
    extends = extends_longer old.places places added.longer

    stays : (p : Owner) (s : Spot) → spot_of old.places p ≡ Some s → SameWords (arena_of start.arena) (arena_of after) s
    stays p s e = words_grown start.arena after s old.stands.aligned laid.grown (old.stands.spots p s e)

    low_there : OwnWordsAt low [] old.further_at (arena_of after)
    low_there = own_words_kept low [] old.further_at old.places (arena_of start.arena) (arena_of after) old.others (λ n s e. stays (of_other n) s e) old.own

    pub with_symbols : IsStaticData names program low [] (with_arena after start)
    with_symbols = record {
      places = places;
      first = laid.grown.first ∙ old.first;
      further_at = end_address after;
      further_end = omega arith;
      others = added.longer.others ∙ old.others;
      own = record { low_words = low_there.low_words; further_words = λ i w there. absurd (cc there) };
      no_nil = no_nil_there names no_nil after.symbols places.symbols added.stands.listed;
      stands = added.stands;
      fixed = λ left.
          let fixed : FixedStand names program old.places (arena_of start.arena) 0 [] left left = old.fixed left in
          fixed_kept names program old.places places (arena_of start.arena) (arena_of after) 0 [] left left extends
          (ap (λ ss. slice_get ss 0) added.longer.others) (stays (of_other 0) fixed_spot fixed.spot) fixed;
      all = λ i h. let was = old.all i h in record { word = was.word; of_value = extends.word (object i) was.word was.of_value };
      numbered =
          subst (λ os. AreNumbered places os after) (append-nil (objects_at_start names program))
          (none_numbered names program old.places places (objects_at_start names program) start.arena after old.stands added.longer laid.grown old.numbered [] tt);
      class_count = old.class_count;
      function_count = old.function_count;
      literal_count = old.literal_count;
      class_words = λ class w there. extends.word (class_value names program class) w (old.class_words class w there);
      function_words = λ name w there. extends.word (function_value names program name) w (old.function_words name w there);
      literal_words = λ literal w d here there. extends.word (literal_value names program literal d) w (old.literal_words literal w d here there);
    }

    pub symbols_there : HaveSymbols wanted after.symbols
    symbols_there = added.have
