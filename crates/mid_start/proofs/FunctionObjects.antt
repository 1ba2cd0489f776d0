-- A function is laid.
use Rattle.std.proofs.Common.{◌≡◌, ℕ, zero, suc, ◌+◌, ◌*◌, ◌%◌, ◌≤◌, List, [], ◌∷◌, ◌++◌, length, Some, refl, sym, ◌∙◌, ap, append-nil, add-zero, length-append, lit<, lit≤, arith}
use Rattle.std.specs.Prelude.{slice_get}
use Rattle.base.specs.Names.{slice_get-behind}
use Rattle.lang_meaning.specs.declared.program.ProgramRows.{ProgramRows}
use Rattle.lang_meaning.specs.declared.program.Callee.{Callee}
use Rattle.lang_meaning.specs.declared.program.Callee.TheVariants.{Procedure, Generic}
use Rattle.lang_meaning.specs.Values.{object}
use Rattle.lang_meaning.specs.Objects.{Object, function}
use Rattle.lang_meaning.specs.Literals.{Laid, after_parts}
use Rattle.lang_meaning.specs.InitialHeap.{function_object}
use Rattle.mid_code.specs.Arena.{word_at}
use Rattle.mid_arena.specs.Tags.{object_tag, function_header, generic_header}
use Rattle.mid_arena.specs.Places.{Spot, end_of, Places, of_object, spot_of, pointer_in, word_of, with_object}
use Rattle.mid_arena.specs.Layouts.{ObjectAt}
use Rattle.mid_start.specs.declared.words.ArenaWords.{ArenaWords}
use Rattle.mid_start.specs.LaidArena.{end_address, arena_of}
use Rattle.mid_start.specs.LaidWell.{LaidWell}
use Rattle.mid_start.specs.Laying.{LaidThere}
use Rattle.mid_start.proofs.LaidWords.{Appended, appended_grown, spot_among, word_behind}
use Rattle.mid_start.proofs.Joining.{longer_same}
use Rattle.mid_start.proofs.Made.{spot_behind, object_after}
use Rattle.lang_meaning.specs.Recipes.{single, laid, callee_recipe}
use Rattle.mid_start.specs.Making.{IsWord, IsNumbered, AreNumbered, Made, Makes}
use Rattle.mid_start.proofs.Numbered.{FrontOrBehind, at_front, further, front_or_behind, old_numbered}
use Rattle.mid_start.proofs.Reaching.{one_word}
use Rattle.mid_start.proofs.Joins.{makes_as}

-- words behind those that were there, by their addresses
module _ (before after : ArenaWords) (ws : List ℕ) (aligned : before.first % 4 ≡ 0) (more : Appended before after ws) where
  pub first_behind : (w : ℕ) → slice_get ws 0 ≡ Some w → word_at (arena_of after) (end_address before) ≡ Some w
  first_behind w e =
      let same : end_address before ≡ end_address before + 4 * 0 = omega arith in
      ap (word_at (arena_of after)) same ∙ word_behind before after ws 0 w aligned more.first more.words e

  pub later_behind : (address i w : ℕ) → address ≡ end_address before + 4 * i → slice_get ws i ≡ Some w → word_at (arena_of after) address ≡ Some w
  later_behind address i w same e = ap (word_at (arena_of after)) same ∙ word_behind before after ws i w aligned more.first more.words e

-- an object that names no other, and how its number is known if it is a function
object_made :
    (names : List (List ℕ)) (o : Object) (before after : ArenaWords) (ws : List ℕ) (w : ℕ) → Appended before after ws → 1 ≤ length ws
    → ((program : ProgramRows) (places : Places) → before.first % 4 ≡ 0 → ObjectAt names program places (arena_of after) (spot_behind before (length ws) object_tag) o)
    → ((p : ℕ) (s : Spot) → o ≡ function p → before.first % 4 ≡ 0 → 2 ≤ s.words → s.tag ≡ object_tag → s.address + s.tag ≡ w → end_of s ≤ end_address after → IsNumbered after s p)
    → w ≡ end_address before + 2 → Makes names IsWord (single o) before after w
object_made names o before after ws w more some made number word =
    makes_as names IsWord (laid lay) (single o) before after w (λ n. let same : n + 0 ≡ n = add-zero n in rw same refl) (record { there = there })
  where
    lay : ℕ → Laid
    lay n = after_parts n [] o

    there :
        (program : ProgramRows) (places : Places) (store : List Object) → LaidWell names program places store before
        → Made names program IsWord places store before after (laid lay (length store)) w
    there program places store h =
        let l : LaidThere names program places store after (lay (length store)) w =
        object_after names program places store places before after [] o ws object_tag w (longer_same places)
        (rw (append-nil store) h) more some (lit< tt) (made program (with_object (spot_behind before (length ws) object_tag) places) h.aligned) word in
        record {
          places_after = l.places_after;
          longer = l.longer;
          stands = l.stands;
          words = l.of_value;
          numbered = λ numbered. record {
            each = λ i p s found e. by l numbered i p s e (front_or_behind store (o ∷ []) i (function p) found);
          };
          all = one_word l.places_after (length store) w (ap (λ n. word_of l.places_after (object n)) (sym (add-zero (length store))) ∙ l.of_value);
        }
      where
        by : (l : LaidThere names program places store after (lay (length store)) w) → AreNumbered places store before → (i p : ℕ) (s : Spot)
            → spot_of l.places_after (of_object i) ≡ Some s → FrontOrBehind store (o ∷ []) i (function p) → IsNumbered after s p
        by l numbered i p s e (at_front found) =
            old_numbered names program places l.places_after store before after h l.longer (appended_grown before after ws more) numbered i p s found e
        by l numbered i p s e (further zero same found) =
            let is : o ≡ function p = cc found in
            let here : i ≡ length store + 0 = same in
            let stands : ObjectAt names program l.places_after (arena_of after) s (function p) =
            l.stands.objects i (function p) s (ap (slice_get (store ++ o ∷ [])) (same ∙ add-zero (length store)) ∙ slice_get-behind store o ∙ ap (λ x. Some x) is) e in
            let pointer : Some (s.address + s.tag) ≡ Some w = ap pointer_in (sym e) ∙ ap (λ n. pointer_in (spot_of l.places_after (of_object n))) here ∙ l.of_value in
            let among = spot_among after s (l.stands.spots (of_object i) s e) in
            number p s is h.aligned stands.words stands.tag (cc pointer) among.high
        by l numbered i p s e (further (suc j) same found) = absurd (cc found)

abbrev pub function_words : Callee → List ℕ
function_words (Procedure p) = function_header ∷ p ∷ []
function_words (Generic g) = generic_header ∷ 4 * g ∷ []

pub function_made :
    (names : List (List ℕ)) (callee : Callee) (before after : ArenaWords) (w : ℕ) → Appended before after (function_words callee)
    → w ≡ end_address before + 2 → Makes names IsWord (callee_recipe callee) before after w
function_made names (Procedure p) before after w more word =
    object_made names (function_object (Procedure p)) before after (function_words (Procedure p)) w more (lit≤ tt)
    (λ program places aligned. record { words = lit≤ tt; tag = refl; header = first_behind before after (function_words (Procedure p)) aligned more function_header refl })
    (λ q s is aligned words tag address high.
    let count : length after.words ≡ length before.words + 2 = ap (λ xs. length xs) more.words ∙ length-append before.words (function_words (Procedure p)) in
    let at : s.address + 4 ≡ end_address before + 4 * 1 = omega (arith, tag, address, word) in
    let same : p ≡ q = cc is in
    record {
      size = omega (arith, words, tag, address, word, high, count, more.first);
      number = later_behind before after (function_words (Procedure p)) aligned more (s.address + 4) 1 q at (ap (λ n. Some n) same);
    }) word
function_made names (Generic g) before after w more word =
    object_made names (function_object (Generic g)) before after (function_words (Generic g)) w more (lit≤ tt)
    (λ program places aligned. record {
      size = record { words = refl; tag = refl };
      header = first_behind before after (function_words (Generic g)) aligned more generic_header refl;
      word = later_behind before after (function_words (Generic g)) aligned more (end_address before + 4) 1 (4 * g) refl refl;
    }) (λ q s is aligned words tag address high. absurd (cc is)) word
