-- All that is laid, one after another, and the classes and streams at last: **the words are those of the objects at the start**.
use Rattle.std.proofs.Common.{length-append, ◌≡◌, ℕ, zero, suc, ◌+◌, ◌*◌, ◌%◌, ◌<◌, ◌≤◌, Bool, true, false, List, [], ◌∷◌, ◌++◌, length, Option, Some, None, refl, sym, ◌∙◌, ap, subst, append-nil, zero-add, arith, ◌-◌, ⊎_elim}
use Rattle.std.specs.Prelude.{slice_get, replicate, ◌&&◌}
use Rattle.std.proofs.lemmas.List.{length-replicate}
use Rattle.std.proofs.lemmas.Option.{slice_get_within, get_or_from_slice_get}
use Rattle.base.specs.Names.{slice_get-front}
use Rattle.base.specs.declared.datum.Name.{Name}
use Rattle.lang_meaning.specs.declared.program.ProgramRows.{ProgramRows}
use Rattle.lang_meaning.specs.declared.program.ClassRow.{ClassRow}
use Rattle.lang_meaning.specs.BuiltIn.{built_in_precedence, built_in_slots}
use Rattle.lang_meaning.specs.Facts.{is_row, begins_with_built_in}
use Rattle.lang_meaning.specs.Values.{object, symbol, named, t}
use Rattle.lang_meaning.specs.Objects.{Object, input_stream, output_stream, class_object, built_in_classes}
use Rattle.lang_meaning.specs.Lookup.{text}
use Rattle.lang_meaning.specs.InitialHeap.{objects_at_start, class_value, function_value, literal_value, standard_input, standard_output}
use Rattle.mid_arena.specs.Places.{Spot, Places, Owner, of_object, of_symbol, of_other, spot_in, spot_of, word_of}
use Rattle.mid_arena.specs.FixedWords.{low_address, nil_text}
use Rattle.mid_arena.proofs.Keeping.{PlacesExtend}
use Rattle.mid_start.specs.declared.words.ArenaWords.{ArenaWords}
use Rattle.mid_start.specs.LaidWell.{LaidWell}
use Rattle.mid_start.specs.Laying.{Longer}
use Rattle.mid_start.proofs.Lists.{item_stays}
use Rattle.mid_start.proofs.Joining.{longer_both, extends_longer}
use Rattle.mid_start.specs.declared.slots.SlotWords.{SlotWords}
use Rattle.lang_meaning.specs.Recipes.{Recipe, in_turn, function_recipe, literal_recipe}
use Rattle.mid_start.specs.Recipes.{name_recipe, of_slot, slots_recipe}
use Rattle.mid_start.specs.Making.{IsWord, IsSlot, EachStandsFor, HasWord, HaveWords, AreNumbered, Made, Makes}
use Rattle.mid_start.proofs.Reaching.{words_both, words_kept}
use Rattle.mid_arena.proofs.Arguments.{item_there}
use Rattle.std.proofs.lemmas.Bool.{cases_lt}
use Rattle.mid_start.specs.Settling.{SlotsAreCounted, StillWords, Settled, Settles, class_number, ClassesWait, ClassesSettled, ClassesSettle}
use Rattle.mid_start.specs.LaidArena.{end_address}
use Rattle.mid_start.specs.StaticData.{fixed_spot, spot_for, front_contents, IsStaticData}
use Rattle.mid_start.proofs.Joins.{lasts_word, lasts_slot, lasts_each, Lasts}
use Rattle.mid_start.proofs.Settle.{extends_of}
use Rattle.lang_meaning.proofs.WholeRecipes.{at_functions, at_literals, at_slots, all_objects, function_whole, literal_whole}
use Rattle.mid_start.proofs.Found.{function_found, word_in}
use Rattle.lang_meaning.proofs.LiteralPlaces.{literal_found}
use Rattle.mid_start.proofs.ClassPlaces.{first_objects, first_count, input_object, output_object, class_number_is, class_there, input_is, output_is, class_value_is}
use Rattle.mid_start.proofs.SlotStanding.{turn_length, each_length, slots_stand_there}
use Rattle.mid_start.proofs.FixedFront.{with_front, same_values, no_nil_there, front_laid, front_numbered, front_count, low_there, fixed_stand}

-- a program has at least the classes that are built in
both_true : (a b : Bool) → (a && b) ≡ true → b ≡ true
both_true true b h = h
both_true false b h = absurd (cc h)

begins_length : (cs : List ClassRow) (ps : List (List ℕ)) (ns : List ℕ) → begins_with_built_in cs ps ns ≡ true → length ps ≤ length cs
begins_length cs [] ns h = omega arith
begins_length [] (p ∷ ps) ns h = absurd (cc h)
begins_length (c ∷ cs) (p ∷ ps) [] h = absurd (cc h)
begins_length (c ∷ cs) (p ∷ ps) (n ∷ ns) h = let others = begins_length cs ps ns (both_true (is_row c p n) _ h) in omega (arith, others)

pub enough_classes : (cs : List ClassRow) → begins_with_built_in cs built_in_precedence built_in_slots ≡ true → 34 ≤ length cs
enough_classes cs h = begins_length cs built_in_precedence built_in_slots h

-- ---- at first no object has a spot

abbrev no_spots : List Object → Places
no_spots os = record { objects = replicate {A = Option Spot} (length os) None; symbols = []; others = [] }

none_there : (n i : ℕ) → spot_in (slice_get (replicate {A = Option Spot} n None) i) ≡ None
none_there zero i = refl
none_there (suc n) zero = refl
none_there (suc n) (suc i) = none_there n i

waits_there : (n i : ℕ) → i < n → slice_get (replicate {A = Option Spot} n None) i ≡ Some None
waits_there zero i h = absurd (omega arith)
waits_there (suc n) zero h = refl
waits_there (suc n) (suc i) h = waits_there n i (omega arith)

none_owned : (os : List Object) (p : Owner) (s : Spot) → spot_of (no_spots os) p ≡ Some s → ⊥
none_owned os (of_object i) s e = let none : spot_in (slice_get (replicate {A = Option Spot} (length os) None) i) ≡ None = none_there (length os) i in cc
none_owned os (of_symbol v) s e = cc e
none_owned os (of_other n) s e = cc e

nothing_stands : (names : List (List ℕ)) (program : ProgramRows) (os : List Object) (words : ArenaWords) → words.first % 4 ≡ 0 → words.symbols ≡ []
    → LaidWell names program (no_spots os) os words
nothing_stands names program os words aligned symbols = record {
  aligned = aligned;
  spots = λ p s e. absurd (none_owned os p s e);
  apart = λ p q s r different d e. absurd (none_owned os p s d);
  count = length-replicate {A = Option Spot} (length os) None;
  objects = λ i o s stored e. absurd (none_owned os (of_object i) s e);
  symbols = λ v s e. absurd (none_owned os (of_symbol v) s e);
  listed = rw symbols tt;
  once = λ i j p q here there same. absurd (cc here);
}

-- ---- one behind another

behind : {V : Type 0} (r : Recipe V) (os : List Object) → os ++ (r (0 + length os)).0 ≡ os ++ (r (length os)).0
behind r os = ap (λ n. os ++ (r n).0) (zero-add (length os))

module _
    (names : List (List ℕ)) (program : ProgramRows) (true_name : Name) (a b c d e f g h words : ArenaWords)
    (fs ls cs : List ℕ) (ss : List (List SlotWords)) (truth input output : ℕ) (low_words : List ℕ)
    (enough : 34 ≤ length program.classes) (true_text : slice_get names true_name.0 ≡ Some (116 ∷ [])) (no_nil : (i : ℕ) → slice_get names i ≡ Some nil_text → ⊥)
    (from : a.first ≡ 184 + 4 * length low_words) (none : a.symbols ≡ []) (same_from : h.first ≡ 184 + 4 * length low_words)
    (functions : Makes names (EachStandsFor IsWord) (in_turn function_recipe program.functions) a b fs)
    (literals : Makes names (EachStandsFor IsWord) (in_turn (literal_recipe names) program.literals) b c ls)
    (slots : Makes names (EachStandsFor (EachStandsFor IsSlot)) (in_turn (slots_recipe names) program.classes) c d ss) (counted : SlotsAreCounted program.classes ss)
    (true_laid : Makes names IsWord (name_recipe names true_name) d e truth)
    (input_laid : Settles names program input_stream (λ places. Unit {0}) e f input)
    (output_laid : Settles names program output_stream (λ places. Unit {0}) f g output)
    (classes : ClassesSettle names program truth ss g h (length program.classes) cs)
    (first : words.first ≡ 0) (all : words.words ≡ front_contents cs input output truth low_words ++ h.words) (symbols : words.symbols ≡ h.symbols)
  where
    abbrev at_first : List Object
    at_first = first_objects (length program.classes)

    abbrev with_functions : List Object
    with_functions = at_first ++ (in_turn function_recipe program.functions (length at_first)).0

    abbrev with_literals : List Object
    with_literals = with_functions ++ (in_turn (literal_recipe names) program.literals (length with_functions)).0

    abbrev store : List Object
    store = with_literals ++ (in_turn (slots_recipe names) program.classes (length with_literals)).0

    functions_same : at_first ++ (in_turn function_recipe program.functions (0 + length at_first)).0 ≡ with_functions
    functions_same = behind (in_turn function_recipe program.functions) at_first

    literals_same :
        (at_first ++ (in_turn function_recipe program.functions (0 + length at_first)).0)
        ++ (in_turn (literal_recipe names) program.literals (0 + length (at_first ++ (in_turn function_recipe program.functions (0 + length at_first)).0))).0 ≡ with_literals
    literals_same =
        ap (λ os. os ++ (in_turn (literal_recipe names) program.literals (0 + length os)).0) functions_same ∙ behind (in_turn (literal_recipe names) program.literals) with_functions

    -- they are the objects at the start
    store_same : store ≡ objects_at_start names program
    store_same =
        sym
        (all_objects (of_slot names) names built_in_classes program 0
        ∙ ap (λ os. os ++ (in_turn (slots_recipe names) program.classes (0 + length os)).0) literals_same
        ∙ behind (in_turn (slots_recipe names) program.classes) with_literals)

    slots_from : length with_literals ≡ at_slots names built_in_classes program
    slots_from = sym (ap (λ (os : List Object). 0 + length os) literals_same ∙ zero-add (length with_literals))

    front : (i : ℕ) (o : Object) → slice_get at_first i ≡ Some o → slice_get store i ≡ Some o
    front i o there =
        slice_get-front with_literals _ i o (slice_get-front with_functions _ i o (slice_get-front at_first _ i o there))

    -- what is laid in turn

    functions_made : Made names program (EachStandsFor IsWord) (no_spots at_first) at_first a b (in_turn function_recipe program.functions (length at_first)) fs
    functions_made = functions.there program (no_spots at_first) at_first (nothing_stands names program at_first a (omega (arith, from)) none)

    literals_made : Made names program (EachStandsFor IsWord) functions_made.places_after with_functions b c (in_turn (literal_recipe names) program.literals (length with_functions)) ls
    literals_made = literals.there program functions_made.places_after with_functions functions_made.stands

    slots_made : Made names program (EachStandsFor (EachStandsFor IsSlot)) literals_made.places_after with_literals c d (in_turn (slots_recipe names) program.classes (length with_literals)) ss
    slots_made = slots.there program literals_made.places_after with_literals literals_made.stands

    true_made : Made names program IsWord slots_made.places_after store d e ([], symbol (named (text names true_name.0))) truth
    true_made = true_laid.there program slots_made.places_after store slots_made.stands

    abbrev laid : Places
    laid = true_made.places_after

    laid_stands : LaidWell names program laid store e
    laid_stands = subst (λ os. LaidWell names program laid os e) (append-nil store) true_made.stands

    longer : Longer (no_spots at_first) laid
    longer =
        longer_both (no_spots at_first) functions_made.places_after laid functions_made.longer
        (longer_both functions_made.places_after literals_made.places_after laid literals_made.longer
        (longer_both literals_made.places_after slots_made.places_after laid slots_made.longer true_made.longer))

    waits : (i : ℕ) → i < length at_first → slice_get laid.objects i ≡ Some None
    waits i within = item_stays (no_spots at_first).objects laid.objects i None longer.objects (waits_there (length at_first) i within)

    t_laid : word_of laid t ≡ Some truth
    t_laid =
        let bytes : text names true_name.0 ≡ 116 ∷ [] = get_or_from_slice_get names true_name.0 (116 ∷ []) [] true_text in
        ap (λ x. word_of laid (symbol (named x))) (sym bytes) ∙ true_made.words

    -- streams and classes

    first_length : length at_first ≡ length program.classes + 2
    first_length = first_count (length program.classes) enough

    input_settled : Settled names program laid store 34 e f input
    input_settled = input_laid.there laid store 34 laid_stands (front 34 input_stream (input_object (length program.classes))) (waits 34 (omega (arith, first_length))) tt

    output_settled : Settled names program input_settled.places_after store 35 f g output
    output_settled =
        output_laid.there input_settled.places_after store 35 input_settled.stands (front 35 output_stream (output_object (length program.classes)))
        (input_settled.waiting 35 (λ same. omega arith) (waits 35 (omega (arith, first_length)))) tt

    abbrev streams : Places
    streams = output_settled.places_after

    still : StillWords laid streams
    still = record { word = λ v w there. output_settled.words.word v w (input_settled.words.word v w there) }

    -- the words of slots
    slots_words : EachStandsFor (EachStandsFor IsSlot) streams (in_turn (slots_recipe names) program.classes (at_slots names built_in_classes program)).1 ss
    slots_words =
        let lasts : Lasts (EachStandsFor (EachStandsFor IsSlot)) = lasts_each (EachStandsFor IsSlot) (lasts_each IsSlot lasts_slot) in
        let values = (in_turn (slots_recipe names) program.classes (length with_literals)).1 in
        subst (λ n. EachStandsFor (EachStandsFor IsSlot) streams (in_turn (slots_recipe names) program.classes n).1 ss) slots_from
        (lasts.kept laid streams (extends_of laid streams still) values ss
        (lasts.kept slots_made.places_after laid (extends_longer slots_made.places_after laid true_made.longer) values ss slots_made.words))

    no_stream : (class : ℕ) → (class_number class ≡ 34 → ⊥) × (class_number class ≡ 35 → ⊥)
    no_stream class =
        class_number_is (λ n. (n ≡ 34 → ⊥) × (n ≡ 35 → ⊥)) class
        (λ low. (λ same. omega arith, λ same. omega arith)) (λ high. (λ same. omega arith, λ same. omega arith))

    classes_wait : ClassesWait names program truth ss 0 streams store
    classes_wait = record {
      truth_stands = still.word t truth t_laid;
      many = counted.many;
      slots_stand = slots_stand_there names program streams ss counted slots_words;
      objects = λ class within. front (class_number class) (class_object class) (class_there (length program.classes) class within);
      waiting = λ class low within.
          let there = slice_get_within at_first (class_number class) (class_object class) (class_there (length program.classes) class within) in
          let apart = no_stream class in
          output_settled.waiting (class_number class) apart.1 (input_settled.waiting (class_number class) apart.0 (waits (class_number class) there));
    }

    settled : ClassesSettled names program truth ss streams store g h (length program.classes) cs
    settled = classes.there streams store output_settled.stands classes_wait

    abbrev places : Places
    places = settled.places_after

    enough_words : 34 ≤ length cs
    enough_words = omega (arith, settled.many)

    of_classes : (class w : ℕ) → slice_get cs class ≡ Some w → class < length program.classes → word_of places (class_value names program class) ≡ Some w
    of_classes class w there within = ap (word_of places) (class_value_is names program class within) ∙ settled.of_classes class w there

    -- what was laid earlier has its words at last
    at_last : (m : Places) → Longer m laid → PlacesExtend m places
    at_last m more = record {
      word = λ v w there. settled.words.word v w (still.word v w ((extends_longer m laid more).word v w there));
    }

    -- functions have their numbers
    none_numbered : AreNumbered (no_spots at_first) at_first a
    none_numbered = record { each = λ i p s there e. absurd (none_owned at_first (of_object i) s e) }

    all_numbered : AreNumbered places store h
    all_numbered =
        settled.numbered
        (output_settled.numbered
        (input_settled.numbered
        (subst (λ os. AreNumbered laid os e) (append-nil store)
        (true_made.numbered (slots_made.numbered (literals_made.numbered (functions_made.numbered none_numbered)))))))

    functions_at : length at_first ≡ at_functions names built_in_classes program
    functions_at = sym (zero-add (length at_first))

    literals_at : length with_functions ≡ at_literals names built_in_classes program
    literals_at = sym (ap (λ (os : List Object). 0 + length os) functions_same ∙ zero-add (length with_functions))

    -- each object has a word

    first_words : HaveWords places 0 (length at_first)
    first_words = record { each = λ i low. subst (λ n. HasWord places (object n)) (sym (zero-add i)) (of_place i (omega (arith, first_length))) }
      where
        class_word : (class : ℕ) → class < length program.classes → HasWord places (object (class_number class))
        class_word class within =
            let there = item_there cs class (omega (arith, settled.many)) in
            record { word = there.0; of_value = settled.of_classes class there.0 there.1 }

        at_number : (class i : ℕ) → class < length program.classes → (class < 34 → class ≡ i) → (34 ≤ class → class + 2 ≡ i) → HasWord places (object i)
        at_number class i within low high =
            class_number_is (λ n. HasWord places (object n) → HasWord places (object i)) class
            (λ h w. subst (λ n. HasWord places (object n)) (low h) w) (λ h w. subst (λ n. HasWord places (object n)) (high h) w) (class_word class within)

        in_word : HasWord places (object 34)
        in_word = record { word = input; of_value = settled.words.word (object 34) input (output_settled.words.word (object 34) input input_settled.of_object) }

        out_word : HasWord places (object 35)
        out_word = record { word = output; of_value = settled.words.word (object 35) output output_settled.of_object }

        of_place : (i : ℕ) → i < length program.classes + 2 → HasWord places (object i)
        of_place i within =
            ⊎_elim
            (λ (low : i < 34). at_number i i (omega arith) (λ h. refl) (λ h. omega arith))
            (λ (high : 34 ≤ i).
            ⊎_elim
            (λ (stream : i < 36). of_stream i high stream)
            (λ (other : 36 ≤ i). at_number (i - 2) i (omega arith) (λ h. omega arith) (λ h. omega arith))
            (cases_lt i 36))
            (cases_lt i 34)
          where
            of_stream : (i : ℕ) → 34 ≤ i → i < 36 → HasWord places (object i)
            of_stream i high low =
                ⊎_elim
                (λ (one : i < 35). let same : 34 ≡ i = omega arith in subst (λ n. HasWord places (object n)) same in_word)
                (λ (two : 35 ≤ i). let same : 35 ≡ i = omega arith in subst (λ n. HasWord places (object n)) same out_word)
                (cases_lt i 35)

    all_words : HaveWords places 0 (length store)
    all_words =
        let fl = (in_turn function_recipe program.functions (length at_first)).0 in
        let ll = (in_turn (literal_recipe names) program.literals (length with_functions)).0 in
        let sl = (in_turn (slots_recipe names) program.classes (length with_literals)).0 in
        let literals_longer : Longer slots_made.places_after laid = true_made.longer in
        let after_slots : Longer literals_made.places_after laid = longer_both literals_made.places_after slots_made.places_after laid slots_made.longer literals_longer in
        let after_functions : Longer functions_made.places_after laid =
        longer_both functions_made.places_after literals_made.places_after laid literals_made.longer after_slots in
        let one = words_kept functions_made.places_after places (at_last functions_made.places_after after_functions) (length at_first) (length fl) functions_made.all in
        let two = words_kept literals_made.places_after places (at_last literals_made.places_after after_slots) (length with_functions) (length ll) literals_made.all in
        let three = words_kept slots_made.places_after places (at_last slots_made.places_after literals_longer) (length with_literals) (length sl) slots_made.all in
        let first : length with_functions ≡ length at_first + length fl = length-append at_first fl in
        let second : length with_literals ≡ length with_functions + length ll = length-append with_functions ll in
        let third : length store ≡ length with_literals + length sl = length-append with_literals sl in
        rw third
        (words_both places 0 (length with_literals) (length sl)
        (rw second
        (words_both places 0 (length with_functions) (length ll)
        (rw first (words_both places 0 (length at_first) (length fl) first_words (subst (λ n. HaveWords places n (length fl)) (sym (zero-add (length at_first))) one)))
        (subst (λ n. HaveWords places n (length ll)) (sym (zero-add (length with_functions))) two)))
        (subst (λ n. HaveWords places n (length sl)) (sym (zero-add (length with_literals))) three))

    functions_words : EachStandsFor IsWord places (in_turn function_recipe program.functions (at_functions names built_in_classes program)).1 fs
    functions_words =
        subst (λ n. EachStandsFor IsWord places (in_turn function_recipe program.functions n).1 fs) functions_at
        ((lasts_each IsWord lasts_word).kept functions_made.places_after places
        (at_last functions_made.places_after
        (longer_both functions_made.places_after literals_made.places_after laid literals_made.longer
        (longer_both literals_made.places_after slots_made.places_after laid slots_made.longer true_made.longer)))
        (in_turn function_recipe program.functions (length at_first)).1 fs functions_made.words)

    literals_words : EachStandsFor IsWord places (in_turn (literal_recipe names) program.literals (at_literals names built_in_classes program)).1 ls
    literals_words =
        subst (λ n. EachStandsFor IsWord places (in_turn (literal_recipe names) program.literals n).1 ls) literals_at
        ((lasts_each IsWord lasts_word).kept literals_made.places_after places
        (at_last literals_made.places_after (longer_both literals_made.places_after slots_made.places_after laid slots_made.longer true_made.longer))
        (in_turn (literal_recipe names) program.literals (length with_functions)).1 ls literals_made.words)

    -- the streams and t

    input_there : word_of places (standard_input names program) ≡ Some input
    input_there = ap (word_of places) (input_is names program) ∙ settled.words.word (object 34) input (output_settled.words.word (object 34) input input_settled.of_object)

    output_there : word_of places (standard_output names program) ≡ Some output
    output_there = ap (word_of places) (output_is names program) ∙ settled.words.word (object 35) output output_settled.of_object

    truth_there : word_of places t ≡ Some truth
    truth_there = settled.words.word t truth classes_wait.truth_stands

    pub starts : IsStaticData names program low_words [] (record { arena = words; classes = cs; functions = fs; literals = ls })
    starts = record {
      places = with_front (length low_words) places;
      first = first;
      further_at = end_address words;
      further_end = omega arith;
      others = ap (λ ss. fixed_spot ∷ ss) (sym (append-nil (spot_for low_address (length low_words))));
      own = record {
        low_words =
            low_there names program places low_words h words cs input output truth enough_words same_from first all
            (λ class w there low. of_classes class w there (omega arith)) input_there output_there truth_there;
        further_words = λ i w there. absurd (cc there);
      };
      no_nil = no_nil_there names no_nil h.symbols places.symbols settled.stands.listed;
      stands =
          subst (λ os. LaidWell names program (with_front (length low_words) places) os words) store_same
          (front_laid names program places store (length low_words) (front_contents cs input output truth low_words) h words (front_count cs input output truth low_words enough_words) same_from first all symbols
          settled.stands);
      fixed = λ left.
          fixed_stand names program places low_words h words cs input output truth enough_words same_from first all
          (λ class w there low. of_classes class w there (omega arith)) input_there output_there truth_there left;
      all = λ i low.
          let within : i < length store = subst (λ (os : List Object). i < length os) (sym store_same) low in
          let old : HasWord places (object i) = subst (λ n. HasWord places (object n)) (zero-add i) (all_words.each i within) in
          record { word = old.word; of_value = (same_values (length low_words) places).word (object i) old.word old.of_value };
      numbered =
          subst (λ os. AreNumbered (with_front (length low_words) places) os words) store_same
          (front_numbered names program places store (length low_words) (front_contents cs input output truth low_words) h words (front_count cs input output truth low_words enough_words) same_from first all symbols
          settled.stands all_numbered);
      class_count = settled.many;
      function_count =
          each_length IsWord functions_made.places_after (in_turn function_recipe program.functions (length at_first)).1 fs functions_made.words
          ∙ turn_length function_recipe program.functions (length at_first);
      literal_count =
          each_length IsWord literals_made.places_after (in_turn (literal_recipe names) program.literals (length with_functions)).1 ls literals_made.words
          ∙ turn_length (literal_recipe names) program.literals (length with_functions);
      class_words = λ class w there.
          let within = slice_get_within cs class w there in
          (same_values (length low_words) places).word (class_value names program class) w (of_classes class w there (omega (arith, settled.many)));
      function_words = λ name w there.
          (same_values (length low_words) places).word (function_value names program name) w
          (ap (word_of places) (sym (function_whole names built_in_classes program name))
          ∙ function_found names places program.functions fs (at_functions names built_in_classes program) name w functions_words there);
      literal_words = λ literal w d here there.
          (same_values (length low_words) places).word (literal_value names program literal d) w
          (ap (word_of places) (sym (literal_found names program (at_literals names built_in_classes program) literal d here (literal_whole names built_in_classes program literal)))
          ∙ word_in places (in_turn (literal_recipe names) program.literals (at_literals names built_in_classes program)).1 ls literal w literals_words there);
    }
