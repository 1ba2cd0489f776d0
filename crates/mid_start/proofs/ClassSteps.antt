-- One class after another gets its words.
use Rattle.std.proofs.Common.{◌≡◌, ℕ, ◌+◌, ◌<◌, ◌≤◌, Bool, true, false, List, [], ◌∷◌, ◌++◌, length, Some, None, ⊎_elim, refl, sym, ◌∙◌, ap, subst, append-nil, length-append, lit<, arith}
use Rattle.std.specs.Prelude.{slice_get, nat_lt, if◌then◌else◌}
use Rattle.std.proofs.lemmas.Bool.Decides.{nat_tests}
use Rattle.std.proofs.lemmas.Option.{slice_get_within}
use Rattle.base.specs.Names.{slice_get-push}
use Rattle.lang_meaning.specs.declared.program.ProgramRows.{ProgramRows}
use Rattle.lang_meaning.specs.declared.program.ClassRow.{ClassRow}
use Rattle.lang_meaning.specs.declared.program.SlotRow.{SlotRow}
use Rattle.lang_meaning.specs.Values.{t, symbol, named, object}
use Rattle.lang_meaning.specs.Objects.{Object, class_object, built_in_classes}
use Rattle.lang_meaning.specs.Lookup.{text}
use Rattle.lang_meaning.specs.InitialHeap.{initargs_value, initform_value}
use Rattle.mid_arena.specs.Tags.{object_tag}
use Rattle.mid_arena.specs.Places.{Places, word_of}
use Rattle.mid_start.specs.declared.words.ArenaWords.{ArenaWords}
use Rattle.mid_start.specs.LaidArena.{end_address}
use Rattle.mid_start.specs.LaidWell.{LaidWell}
use Rattle.mid_start.proofs.Lists.{item_stays}
use Rattle.mid_start.proofs.LaidWords.{Appended}
use Rattle.mid_start.proofs.Joining.{extends_longer}
use Rattle.mid_start.proofs.Made.{spot_behind}
use Rattle.mid_start.specs.declared.slots.SlotWords.{SlotWords}
use Rattle.mid_start.specs.Recipes.{name_recipe}
use Rattle.mid_start.specs.Making.{IsWord, AreNumbered, Made, Makes}
use Rattle.mid_start.specs.Settling.{class_words, SlotStands, SlotsStand, StillWords, Settled, Settles, ClassGiven, class_number, ClassesWait, ClassesSettled, ClassesSettle}
use Rattle.mid_start.proofs.Settle.{with_spot, settled, words_stay}
use Rattle.mid_start.proofs.ClassObjects.{class_at}

-- ---- what stays

still_both : (first second third : Places) → StillWords first second → StillWords second third → StillWords first third
still_both first second third g h = record { word = λ v w e. h.word v w (g.word v w e) }

module _ (names : List (List ℕ)) (program : ProgramRows) (before after : Places) (more : StillWords before after) where
  slot_still : (class place : ℕ) (row : SlotRow) (s : SlotWords) → SlotStands names program before class place row s → SlotStands names program after class place row s
  slot_still class place row s h = record {
    name = more.word (symbol (named (text names row.name.0))) s.name h.name;
    initargs = more.word (initargs_value names program class place) s.initargs h.initargs;
    initform = more.word (initform_value names program class place) s.initform h.initform;
  }

  slots_still : (class : ℕ) (rows : List SlotRow) (ss : List SlotWords) → SlotsStand names program before class rows ss → SlotsStand names program after class rows ss
  slots_still class rows ss h = record { count = h.count; each = λ i row s e f. slot_still class i row s (h.each i row s e f) }

  given_still : (class : ℕ) (row : ClassRow) (truth : ℕ) (ss : List SlotWords) → ClassGiven names program class row truth ss before → ClassGiven names program class row truth ss after
  given_still class row truth ss h = record { truth_stands = more.word t truth h.truth_stands; slots_stand = slots_still class row.slots ss h.slots_stand }

-- ---- one class

-- the name is laid, and then the class behind it
pub class_settles :
    (names : List (List ℕ)) (program : ProgramRows) (class : ℕ) (row : ClassRow) (name truth : ℕ) (ss : List SlotWords) (before mid after : ArenaWords) (w : ℕ)
    → slice_get program.classes class ≡ Some row → Makes names IsWord (name_recipe names row.name) before mid name
    → Appended mid after (class_words class name truth row ss) → w ≡ end_address mid + 2
    → Settles names program (class_object class) (ClassGiven names program class row truth ss) before after w
class_settles names program class row name truth ss before mid after w here p more word = record { there = there }
  where
    some_words : 1 ≤ length (class_words class name truth row ss)
    some_words = omega arith

    there :
        (places : Places) (store : List Object) (i : ℕ) → LaidWell names program places store before → slice_get store i ≡ Some (class_object class)
        → slice_get places.objects i ≡ Some None → ClassGiven names program class row truth ss places → Settled names program places store i before after w
    there places store i h stored none given =
        let m : Made names program IsWord places store before mid ([], symbol (named (text names row.name.0))) name = p.there program places store h in
        let stands : LaidWell names program m.places_after store mid = subst (λ os. LaidWell names program m.places_after os mid) (append-nil store) m.stands in
        let gone : slice_get m.places_after.objects i ≡ Some None = item_stays places.objects m.places_after.objects i None m.longer.objects none in
        let named_still : StillWords places m.places_after = record { word = (extends_longer places m.places_after m.longer).word } in
        let kept = words_stay names program m.places_after store mid after i (class_object class) (class_words class name truth row ss) object_tag stands stored gone more some_words (lit< tt) in
        let still : StillWords m.places_after (with_spot i (spot_behind mid (length (class_words class name truth row ss)) object_tag) m.places_after) = record { word = kept.word } in
        let given_now = given_still names program m.places_after (with_spot i (spot_behind mid (length (class_words class name truth row ss)) object_tag) m.places_after) still class row truth ss
        (given_still names program places m.places_after named_still class row truth ss given) in
        let one : Settled names program m.places_after store i mid after w =
        settled names program m.places_after store mid after i (class_object class) (class_words class name truth row ss) object_tag stands stored gone more some_words (lit< tt) w
        (class_at names program class row name truth ss mid after (with_spot i (spot_behind mid (length (class_words class name truth row ss)) object_tag) m.places_after)
        here stands.aligned more given_now (still.word (symbol (named (text names row.name.0))) name m.words)) tt word in
        record {
          places_after = one.places_after;
          words = still_both places m.places_after one.places_after named_still one.words;
          waiting = λ j other e. one.waiting j other (item_stays places.objects m.places_after.objects j None m.longer.objects e);
          others = one.others ∙ m.longer.others;
          stands = one.stands;
          of_object = one.of_object;
          numbered = λ numbered. one.numbered (subst (λ os. AreNumbered m.places_after os mid) (append-nil store) (m.numbered numbered));
        }

-- ---- one class more

class_number_apart : (c d : ℕ) → (c ≡ d → ⊥) → class_number c ≡ class_number d → ⊥
class_number_apart c d h e = by (nat_lt c built_in_classes) (nat_lt d built_in_classes) refl refl e
  where
    by : (a b : Bool) → nat_lt c built_in_classes ≡ a → nat_lt d built_in_classes ≡ b → (if a then c else c + 2) ≡ (if b then d else d + 2) → ⊥
    by true true p q same = h same
    by false false p q same = h (omega arith)
    by true false p q same = absurd (grind (arith, nat_tests))
    by false true p q same = absurd (grind (arith, nat_tests))

module _ (names : List (List ℕ)) (program : ProgramRows) (truth : ℕ) (slots : List (List SlotWords)) where
  wait_still :
      (from : ℕ) (before after : Places) (store : List Object) → StillWords before after
      → ((class : ℕ) → from + 1 ≤ class → class < length program.classes → slice_get after.objects (class_number class) ≡ Some None)
      → ClassesWait names program truth slots from before store → ClassesWait names program truth slots (from + 1) after store
  wait_still from before after store more waiting h = record {
    truth_stands = more.word t truth h.truth_stands;
    many = h.many;
    slots_stand = λ class row ss e f. slots_still names program before after more class row.slots ss (h.slots_stand class row ss e f);
    objects = h.objects;
    waiting = waiting;
  }

  pub settle_none : (words : ArenaWords) → ClassesSettle names program truth slots words words 0 []
  settle_none words = record {
    there = λ places store h wait. record {
      places_after = places;
      words = record { word = λ v w e. e };
      others = refl;
      stands = h;
      many = refl;
      of_classes = λ class w e. absurd (cc e);
      wait = wait;
      numbered = λ numbered. numbered;
    };
  }

  pub settle_more :
      (n : ℕ) (row : ClassRow) (ss : List SlotWords) (before mid after : ArenaWords) (ws us : List ℕ) (w : ℕ)
      → slice_get program.classes n ≡ Some row → slice_get slots n ≡ Some ss → us ≡ ws ++ w ∷ []
      → ClassesSettle names program truth slots before mid n ws → Settles names program (class_object n) (ClassGiven names program n row truth ss) mid after w
      → ClassesSettle names program truth slots before after (n + 1) us
  settle_more n row ss before mid after ws us w here found pushed p q = record { there = there }
    where
      low : n < length program.classes
      low = slice_get_within program.classes n row here

      there :
          (places : Places) (store : List Object) → LaidWell names program places store before → ClassesWait names program truth slots 0 places store
          → ClassesSettled names program truth slots places store before after (n + 1) us
      there places store h wait =
          let first : ClassesSettled names program truth slots places store before mid n ws = p.there places store h wait in
          let one : Settled names program first.places_after store (class_number n) mid after w =
          q.there first.places_after store (class_number n) first.stands (first.wait.objects n low) (first.wait.waiting n (omega arith) low)
          (record { truth_stands = first.wait.truth_stands; slots_stand = first.wait.slots_stand n row ss here found }) in
          record {
            places_after = one.places_after;
            words = still_both places first.places_after one.places_after first.words one.words;
            others = one.others ∙ first.others;
            stands = one.stands;
            many = omega (arith, ap (λ xs. length xs) pushed, length-append ws (w ∷ []), first.many);
            of_classes = λ class x e.
                ⊎_elim
                (λ old. one.words.word (object (class_number class)) x (first.of_classes class x old))
                (λ new. last one.places_after class x new.0 new.1 first.many one.of_object)
                (slice_get-push ws w class x (ap (λ xs. slice_get xs class) (sym pushed) ∙ e));
            wait =
                wait_still n first.places_after one.places_after store one.words
                (λ class from within. one.waiting (class_number class) (λ same. class_number_apart class n (λ e. omega arith) same) (first.wait.waiting class (omega arith) within))
                first.wait;
            numbered = λ numbered. one.numbered (first.numbered numbered);
          }
        where
          last :
              (after_places : Places) (class x : ℕ) → class ≡ length ws → w ≡ x → length ws ≡ n → word_of after_places (object (class_number n)) ≡ Some w
              → word_of after_places (object (class_number class)) ≡ Some x
          last after_places class x at same many e = ap (λ c. word_of after_places (object (class_number c))) (at ∙ many) ∙ e ∙ ap (λ v. Some v) same
