-- The arguments behind the required ones have become a list.
use Rattle.std.proofs.Common.{◌≡◌, ℕ, ◌+◌, ◌-◌, ◌≤◌, List, [], ◌∷◌, ◌++◌, length, take, drop, Bool, true, false, Some, None, ap, sym, ◌∙◌, subst, arith, length-append}
use Rattle.std.specs.Prelude.{reverse, is_some}
use Rattle.std.proofs.lemmas.List.{drop-map, take-map, map-append, drop-drop, drop-take, drop-append-le, take-append-le, take-take, length-take-le}
use Rattle.eval_machine.specs.Configuration.{then_on}
use Rattle.eval_machine.specs.Applications.{rest_listed, variable_values, listed}
use Rattle.eval_store.specs.declared.word.Word.{Word}
use Rattle.eval_store.specs.Words.{value_of_word, values_of}
use Rattle.eval_store.specs.View.{limit_of}
use Rattle.eval_state.specs.declared.situation.DynamicLinks.{DynamicLinks}
use Rattle.eval_state.specs.declared.given.Given.{Given}
use Rattle.eval_state.specs.declared.machine.Machine.{Machine}
use Rattle.eval_application.specs.declared.entering.Entering.{Entering}
use Rattle.eval_state.specs.Frames.{last_of, others_of, frames_in}
use Rattle.eval_state.specs.View.{StepsTo, IsGiven, setting_of, state, top, frames, dynamic_context}
use Rattle.eval_state.specs.Operands.{IsDropped, IsPushed}
use Rattle.eval_state.specs.Doing.{Gives, Fills}
use Rattle.eval_application.specs.Entering.{entered_of, in_rest, in_record}
use Rattle.eval_state.proofs.Doing.{alike, then_given, then_filled}

-- those behind the first ones of the last ones
pub behind : {X : Type 0} (xs : List X) (n r : ℕ) → r ≤ n → n ≤ length xs → drop r (last_of n xs) ≡ last_of (n - r) xs
behind xs n r h k =
    let e : length xs - n + r ≡ length xs - (n - r) = omega arith in
    drop-drop r (length xs - n) xs ∙ ap (λ j. drop j xs) e

-- the last ones, where one stands for those behind the first ones
pub last_with : {X : Type 0} (xs : List X) (n r : ℕ) (x : X) → r ≤ n → n ≤ length xs → last_of (r + 1) (others_of (n - r) xs ++ x ∷ []) ≡ take r (last_of n xs) ++ x ∷ []
last_with xs n r x h k =
    let l : length (others_of (n - r) xs) ≡ length xs - (n - r) = length-take-le (length xs - (n - r)) xs (omega arith) in
    let a : length (others_of (n - r) xs ++ x ∷ []) ≡ length (others_of (n - r) xs) + 1 = length-append (others_of (n - r) xs) (x ∷ []) in
    let d : length (others_of (n - r) xs ++ x ∷ []) - (r + 1) ≡ length xs - n = omega arith in
    let e : length xs - (n - r) ≡ length xs - n + r = omega arith in
    ap (λ j. drop j (others_of (n - r) xs ++ x ∷ [])) d
    ∙ drop-append-le (length xs - n) (others_of (n - r) xs) (x ∷ []) (omega arith)
    ∙ ap (λ j. drop (length xs - n) (take j xs) ++ x ∷ []) e
    ∙ ap (λ ys. ys ++ x ∷ []) (drop-take (length xs - n) r xs)

pub others_with : {X : Type 0} (xs : List X) (n r : ℕ) (x : X) → r ≤ n → n ≤ length xs → others_of (r + 1) (others_of (n - r) xs ++ x ∷ []) ≡ others_of n xs
others_with xs n r x h k =
    let l : length (others_of (n - r) xs) ≡ length xs - (n - r) = length-take-le (length xs - (n - r)) xs (omega arith) in
    let a : length (others_of (n - r) xs ++ x ∷ []) ≡ length (others_of (n - r) xs) + 1 = length-append (others_of (n - r) xs) (x ∷ []) in
    let d : length (others_of (n - r) xs ++ x ∷ []) - (r + 1) ≡ length xs - n = omega arith in
    ap (λ j. take j (others_of (n - r) xs ++ x ∷ [])) d
    ∙ take-append-le (length xs - n) (others_of (n - r) xs) (x ∷ []) (omega arith)
    ∙ take-take (length xs - n) (length xs - (n - r)) xs (omega arith)

values_behind : (names : List (List ℕ)) (old : Machine) (n r : ℕ) → r ≤ n → n ≤ length old.operands.items → top names old (n - r) ≡ drop r (top names old n)
values_behind names old n r h k =
    ap (values_of names) (sym (behind old.operands.items n r h k)) ∙ sym (drop-map (value_of_word names) r (last_of n old.operands.items))

-- the list, and then the variables with it
pub rest_then : (old made dropped pushed new : Machine) (p : Entering) (n level : ℕ) (a : DynamicLinks) (tail : Word)
    → length p.procedure.now.required ≤ n → n ≤ length old.operands.items → is_some p.procedure.now.rest ≡ true
    → Gives old made (λ names z. listed (limit_of old.given.limit) (top names old (n - length p.procedure.now.required)) z) tail
    → IsDropped made dropped (n - length p.procedure.now.required) → IsPushed dropped pushed tail
    → StepsTo pushed new (λ names s b. in_record s (entered_of names p) (top names pushed (length p.procedure.now.required + 1)) level (dynamic_context names pushed a) (frames names pushed (length p.procedure.now.required + 1)) (state names pushed b))
    → StepsTo old new (λ names s b. in_rest s (entered_of names p) (top names old n) level (dynamic_context names old a) (frames names old n) (state names old b))
rest_then old made dropped pushed new p n level a tail h k more g d x s =
    let r : ℕ = length p.procedure.now.required in
    let pushed_is : pushed ≡ record made { operands = pushed.operands } = x.same ∙ ap (λ (m : Machine). record m { operands = pushed.operands }) d.same in
    let same_operands : made.operands.items ≡ old.operands.items = ap (λ (m : Machine). m.operands.items) g.same in
    let operands_are : pushed.operands.items ≡ others_of (n - r) made.operands.items ++ tail ∷ [] = x.operands ∙ ap (λ xs. xs ++ tail ∷ []) d.operands in
    let fits : n ≤ length made.operands.items = omega (arith, ap length same_operands) in
    let given_is : pushed.given ≡ made.given = ap (λ (m : Machine). m.given) pushed_is in
    let on : StepsTo made new (λ names s b. in_record s (entered_of names p) (variable_values r true (top names made n) (value_of_word names tail)) level (dynamic_context names made a) (frames names made n) (state names made b)) =
    record {
      given = s.given ∙ given_is;
      comes = λ names b k.
          s.comes names b (let P : Given → Type 0 = λ y. IsGiven names y in subst P (sym given_is) k)
          ∙ ap (λ (m : Machine). in_record (setting_of names m.given) (entered_of names p) (top names pushed (r + 1)) level (dynamic_context names m a) (frames_in names m.current (others_of (r + 1) pushed.operands.items) m.slots.items (reverse m.frames.items)) (state names m b)) pushed_is
          ∙ ap (λ xs. in_record (setting_of names made.given) (entered_of names p) (values_of names (last_of (r + 1) xs)) level (dynamic_context names made a) (frames_in names made.current (others_of (r + 1) xs) made.slots.items (reverse made.frames.items)) (state names made b)) operands_are
          ∙ ap (λ xs. in_record (setting_of names made.given) (entered_of names p) (values_of names xs) level (dynamic_context names made a) (frames_in names made.current (others_of (r + 1) (others_of (n - r) made.operands.items ++ tail ∷ [])) made.slots.items (reverse made.frames.items)) (state names made b))
          (last_with made.operands.items n r tail h fits)
          ∙ ap (λ xs. in_record (setting_of names made.given) (entered_of names p) (values_of names (take r (last_of n made.operands.items) ++ tail ∷ [])) level (dynamic_context names made a) (frames_in names made.current xs made.slots.items (reverse made.frames.items)) (state names made b))
          (others_with made.operands.items n r tail h fits)
          ∙ ap (λ vs. in_record (setting_of names made.given) (entered_of names p) vs level (dynamic_context names made a) (frames names made n) (state names made b))
          (map-append (value_of_word names) (take r (last_of n made.operands.items)) (tail ∷ []) ∙ ap (λ xs. xs ++ value_of_word names tail ∷ []) (sym (take-map (value_of_word names) r (last_of n made.operands.items))));
    } in
    let is_listed : Gives old made (λ names z. rest_listed (limit_of old.given.limit) r true (top names old n) z) tail =
    alike old made _ _ (Some tail) (λ names z. ap (λ vs. listed (limit_of old.given.limit) vs z) (values_behind names old n r h k)) g in
    let all : StepsTo old new (λ names s b. then_on (rest_listed s.limit r true (top names old n) (state names old b)) (frames names old n) (λ v gone.
    in_record s (entered_of names p) (variable_values r true (top names old n) v) level (dynamic_context names old a) (frames names old n) gone)) =
    then_given old made new n a (λ names s z. rest_listed s.limit r true (top names old n) z) tail (λ names s vs around v frames z. in_record s (entered_of names p) (variable_values r true vs v) level around frames z) is_listed on in
    let P : Bool → Type 0 = λ t. StepsTo old new (λ names s b. then_on (rest_listed s.limit r t (top names old n) (state names old b)) (frames names old n) (λ v gone.
    in_record s (entered_of names p) (variable_values r t (top names old n) v) level (dynamic_context names old a) (frames names old n) gone)) in
    subst P (sym more) all

pub rest_filled : (old made new : Machine) (p : Entering) (n level : ℕ) (a : DynamicLinks)
    → length p.procedure.now.required ≤ n → n ≤ length old.operands.items → is_some p.procedure.now.rest ≡ true
    → Fills old made (λ names z. listed (limit_of old.given.limit) (top names old (n - length p.procedure.now.required)) z) → IsDropped made new n
    → StepsTo old new (λ names s b. in_rest s (entered_of names p) (top names old n) level (dynamic_context names old a) (frames names old n) (state names old b))
rest_filled old made new p n level a h k more d x =
    let r : ℕ = length p.procedure.now.required in
    let is_listed : Fills old made (λ names z. rest_listed (limit_of old.given.limit) r true (top names old n) z) =
    alike old made _ _ None (λ names z. ap (λ vs. listed (limit_of old.given.limit) vs z) (values_behind names old n r h k)) d in
    let all : StepsTo old new (λ names s b. then_on (rest_listed s.limit r true (top names old n) (state names old b)) (frames names old n) (λ v gone.
    in_record s (entered_of names p) (variable_values r true (top names old n) v) level (dynamic_context names old a) (frames names old n) gone)) =
    then_filled old made new n (λ names s z. rest_listed s.limit r true (top names old n) z)
    (λ names s b v gone. in_record s (entered_of names p) (variable_values r true (top names old n) v) level (dynamic_context names old a) (frames names old n) gone) is_listed x in
    let P : Bool → Type 0 = λ t. StepsTo old new (λ names s b. then_on (rest_listed s.limit r t (top names old n) (state names old b)) (frames names old n) (λ v gone.
    in_record s (entered_of names p) (variable_values r t (top names old n) v) level (dynamic_context names old a) (frames names old n) gone)) in
    subst P (sym more) all

-- without a rest variable the arguments are the variables
pub none_gathered : (old new : Machine) (p : Entering) (n level : ℕ) (a : DynamicLinks) → is_some p.procedure.now.rest ≡ false
    → StepsTo old new (λ names s b. in_record s (entered_of names p) (top names old n) level (dynamic_context names old a) (frames names old n) (state names old b))
    → StepsTo old new (λ names s b. in_rest s (entered_of names p) (top names old n) level (dynamic_context names old a) (frames names old n) (state names old b))
none_gathered old new p n level a none all =
    let r : ℕ = length p.procedure.now.required in
    let P : Bool → Type 0 = λ t. StepsTo old new (λ names s b. then_on (rest_listed s.limit r t (top names old n) (state names old b)) (frames names old n) (λ v gone.
    in_record s (entered_of names p) (variable_values r t (top names old n) v) level (dynamic_context names old a) (frames names old n) gone)) in
    subst P (sym none) all

-- the same where the number of required variables is known by another number
pub rest_then_by : (old made dropped pushed new : Machine) (p : Entering) (r n level : ℕ) (a : DynamicLinks) (tail : Word) → r ≡ length p.procedure.now.required
    → length p.procedure.now.required ≤ n → n ≤ length old.operands.items → is_some p.procedure.now.rest ≡ true
    → Gives old made (λ names z. listed (limit_of old.given.limit) (top names old (n - r)) z) tail
    → IsDropped made dropped (n - r) → IsPushed dropped pushed tail
    → StepsTo pushed new (λ names s b. in_record s (entered_of names p) (top names pushed (r + 1)) level (dynamic_context names pushed a) (frames names pushed (r + 1)) (state names pushed b))
    → StepsTo old new (λ names s b. in_rest s (entered_of names p) (top names old n) level (dynamic_context names old a) (frames names old n) (state names old b))
rest_then_by old made dropped pushed new p r n level a tail e h k more g d x s =
    let P : ℕ → Type 0 = λ r. Gives old made (λ names z. listed (limit_of old.given.limit) (top names old (n - r)) z) tail
    → IsDropped made dropped (n - r) → IsPushed dropped pushed tail
    → StepsTo pushed new (λ names s b. in_record s (entered_of names p) (top names pushed (r + 1)) level (dynamic_context names pushed a) (frames names pushed (r + 1)) (state names pushed b))
    → StepsTo old new (λ names s b. in_rest s (entered_of names p) (top names old n) level (dynamic_context names old a) (frames names old n) (state names old b)) in
    subst P (sym e) (rest_then old made dropped pushed new p n level a tail h k more) g d x s

pub rest_filled_by : (old made new : Machine) (p : Entering) (r n level : ℕ) (a : DynamicLinks) → r ≡ length p.procedure.now.required
    → length p.procedure.now.required ≤ n → n ≤ length old.operands.items → is_some p.procedure.now.rest ≡ true
    → Fills old made (λ names z. listed (limit_of old.given.limit) (top names old (n - r)) z) → IsDropped made new n
    → StepsTo old new (λ names s b. in_rest s (entered_of names p) (top names old n) level (dynamic_context names old a) (frames names old n) (state names old b))
rest_filled_by old made new p r n level a e h k more d x =
    let P : ℕ → Type 0 = λ r. Fills old made (λ names z. listed (limit_of old.given.limit) (top names old (n - r)) z)
    → StepsTo old new (λ names s b. in_rest s (entered_of names p) (top names old n) level (dynamic_context names old a) (frames names old n) (state names old b)) in
    subst P (sym e) (λ f. rest_filled old made new p n level a h k more f x) d
