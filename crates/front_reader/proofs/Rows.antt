-- Where a row describes what comes next, the machine stops as the row says.
use Rattle.std.proofs.Common.{◌≡◌, ℕ, ◌+◌, ◌<◌, Bool, true, false, ◌==◌, List as Seq, [], ◌∷◌, ◌++◌, length, take, Some, refl, sym, ap, subst, ◌∙◌, arith, append_assoc, add-one, length-append}
use Rattle.std.proofs.Math.Seq.{take-append_seam}
use Rattle.std.proofs.lemmas.Bool.{le-leb, lt-leb, eqb-true}
use Rattle.base.specs.declared.place.Place.{Place}
use Rattle.base.specs.declared.reason.Reason.{Reason}
use Rattle.base.specs.declared.reason.Reason.TheVariants.{UnclosedList, UnclosedComment, StrayClose, BadDot, NestTooDeep, BadByte}
use Rattle.base.specs.Data.{Item}
use Rattle.front_reader.specs.declared.opening.Opening.{Opening}
use Rattle.front_reader.specs.declared.opening.Opening.TheVariants.{List, Vector, Before}
use Rattle.front_reader.specs.declared.opening.Prefix.TheVariants.{Quote, Quasiquote, Unquote, UnquoteSplicing, Function}
use Rattle.front_reader.specs.declared.gap.Mode.TheVariants.{Between}
use Rattle.front_reader.specs.declared.gap.Skipped.TheVariants.{OpenFrom}
use Rattle.front_reader.specs.declared.pending.Pending.{Pending}
use Rattle.front_reader.specs.declared.pending.Pending.TheVariants.{InList}
use Rattle.front_reader.specs.Characters.{begins, place_behind}
use Rattle.front_reader.specs.Trees.{Tree, atom, proper, improper, row, prefixed, Trees, no_tree, then_tree, spelled, Stands}
use Rattle.front_reader.specs.Meanings.{MeansAll, atom_content}
use Rattle.front_reader.specs.Fronts.{Level, in_list, at_dot, at_tail, in_vector, at_prefix, opening_place, levels_behind}
use Rattle.front_reader.specs.Stops.{Row, bad_byte, bad_byte_in_bars, bad_byte_escaped, unclosed_list, unclosed_string, unclosed_string_escaped, unclosed_bar, unclosed_bar_escaped, unclosed_comment, stray_close, bad_dot, dot_closed, dot_second, dot_opening, bad_sharp, float_literal, integer_too_wide, based_too_wide, nest_too_deep, token_too_long, bar_too_long, TakesNoClose, TakesNoDot, EndsAtDot, ends_at_dot, EndsAtTail, ends_at_tail, InnermostAt, innermost_at, BeginsOpening, list_next, vector_next, quote_next, quasiquote_next, unquote_next, function_next}
use Rattle.front_reader.specs.bridge.Lexemes.{skip}
use Rattle.front_reader.specs.bridge.Machine.{LexemeState, stopped, over, full_dot, ending, closing, dot_step, unless_full, opening_step, content_step, by_lexed, by_rest, by_gap, step}
use Rattle.front_reader.proofs.Skips.{open-skips}
use Rattle.front_reader.proofs.Lexing.{opening_bytes, OpeningEnds}
use Rattle.front_reader.proofs.Faulting.{Faults, faults-byte, faults-string, faults-string-escaped, faults-bar, faults-bar-escaped, faults-bar-byte, faults-bar-byte-escaped, faults-bar-long, faults-float, faults-wide, faults-long, faults-based-wide, faults-sharp}
use Rattle.front_reader.proofs.Stepping.{Numbers, state, step-atom, step-close, step-dot, step-opening}
use Rattle.front_reader.proofs.Fronting.{Held, held-length}

-- a fault stops the machine
step-fault : (number : Numbers) (rest : Seq ℕ) (q : Place) (done : Seq Item) (os : Seq Pending) (k : ℕ) (r : Reason) → Faults rest k r
    → step number (state rest q done os) ≡ over (stopped (place_behind q (take k rest)) r rest)
unfolding step by_gap by_rest by_lexed
step-fault number [] q done os k r f = absurd (omega (arith, f.some))
step-fault number (b ∷ bs) q done os k r f =
    ap (by_gap number (state (b ∷ bs) q done os)) f.no_gap ∙ ap (by_lexed number (state (b ∷ bs) q done os)) f.lexes

-- the place of a fault some bytes on
step-fault-at : (number : Numbers) (rest front : Seq ℕ) (q : Place) (done : Seq Item) (os : Seq Pending) (k : ℕ) (r : Reason)
    → Faults rest k r → take k rest ≡ front
    → step number (state rest q done os) ≡ over (stopped (place_behind q front) r rest)
step-fault-at number rest front q done os k r f e =
    step-fault number rest q done os k r f ∙ ap (λ w. over (stopped (place_behind q w) r rest)) e

-- a comment that the text does not close
step-open : (number : Numbers) (rest : Seq ℕ) (q : Place) (done : Seq Item) (os : Seq Pending) → skip Between 0 0 rest ≡ OpenFrom 0
    → step number (state rest q done os) ≡ over (stopped q UnclosedComment rest)
unfolding step by_gap
step-open number rest q done os e = ap (by_gap number (state rest q done os)) e

-- the end of a text
step-end : (number : Numbers) (q : Place) (done : Seq Item) (os : Seq Pending) → step number (state [] q done os) ≡ ending done os
unfolding step by_gap by_rest skip
step-end number q done os = refl

-- an opening that may not stand where it does
opening-full : (number : Numbers) (s : LexemeState) (p : Place) (r : Seq ℕ) (o : Opening) (at : Place) → length s.pending < 256
    → full_dot s.pending ≡ Some at → opening_step number s p r o ≡ over (stopped at BadDot r)
opening-full number s p r o at n f = rw (lt-leb 256 (length s.pending) n, f) refl

opening-deep : (number : Numbers) (s : LexemeState) (p : Place) (r : Seq ℕ) (o : Opening) → length s.pending ≡ 256
    → opening_step number s p r o ≡ over (stopped p NestTooDeep r)
opening-deep number s p r o n = rw (le-leb 256 (length s.pending) (omega arith)) refl

-- what opens
record Opens (bs : Seq ℕ) : Type 0 where
  pub opening : Opening
  pub after : Seq ℕ
  pub front : bs ≡ opening_bytes opening ++ after
  pub ends : OpeningEnds opening after

comma-opens : (bs : Seq ℕ) (b : Bool) → begins (λ c. c == 64) bs ≡ b → Opens (44 ∷ bs)
comma-opens bs false e = record { opening = Before Unquote; after = bs; front = refl; ends = e }
comma-opens [] true e = absurd (cc)
comma-opens (c ∷ bs) true e =
    record { opening = Before UnquoteSplicing; after = bs; front = ap (λ d. 44 ∷ d ∷ bs) (eqb-true c 64 e); ends = tt }

opens : (bs : Seq ℕ) → BeginsOpening bs → Opens bs
opens _ (list_next bs) = record { opening = List; after = bs; front = refl; ends = tt }
opens _ (vector_next bs) = record { opening = Vector; after = bs; front = refl; ends = tt }
opens _ (quote_next bs) = record { opening = Before Quote; after = bs; front = refl; ends = tt }
opens _ (quasiquote_next bs) = record { opening = Before Quasiquote; after = bs; front = refl; ends = tt }
opens _ (unquote_next bs) = comma-opens bs (begins (λ c. c == 64) bs) refl
opens _ (function_next bs) = record { opening = Before Function; after = bs; front = refl; ends = tt }

-- an opening where it may not stand
step-full : (number : Numbers) (bs : Seq ℕ) (q : Place) (done : Seq Item) (os : Seq Pending) (at : Place) → Opens bs
    → length os < 256 → full_dot os ≡ Some at → step number (state bs q done os) ≡ over (stopped at BadDot bs)
step-full number bs q done os at o n f =
    let S : Seq ℕ → Type 0 = λ all. step number (state all q done os) ≡ over (stopped at BadDot all) in
    subst S (sym o.front)
    (step-opening number o.opening o.after q done os o.ends ∙ opening-full number _ q _ o.opening at n f)

step-deep : (number : Numbers) (bs : Seq ℕ) (q : Place) (done : Seq Item) (os : Seq Pending) → Opens bs
    → length os ≡ 256 → step number (state bs q done os) ≡ over (stopped q NestTooDeep bs)
step-deep number bs q done os o n =
    let S : Seq ℕ → Type 0 = λ all. step number (state all q done os) ≡ over (stopped q NestTooDeep all) in
    subst S (sym o.front)
    (step-opening number o.opening o.after q done os o.ends ∙ opening-deep number _ q _ o.opening n)

-- a tree behind the one datum of a dot
step-second : (number : Numbers) (t : Tree) (after : Seq ℕ) (n : ℕ) (q : Place) (done : Seq Item) (os : Seq Pending) (at : Place)
    → Stands n t after → n ≡ length os → full_dot os ≡ Some at
    → step number (state (spelled t after) q done os) ≡ over (stopped at BadDot (spelled t after))
unfolding spelled Stands
step-second number (atom b a) after n q done os at s m f =
    step-atom number b after q done os a s
    ∙ ap (λ o. unless_full o (b ++ after) (content_step (state after (place_behind q b) done os) q (atom_content number a))) f
step-second number (proper ts g) after n q done os at s m f =
    step-full number _ q done os at (record { opening = List; after = _; front = refl; ends = tt }) (omega (arith, s.0)) f
step-second number (improper ts g h t i) after n q done os at s m f =
    step-full number _ q done os at (record { opening = List; after = _; front = refl; ends = tt }) (omega (arith, s.0)) f
step-second number (row ts g) after n q done os at s m f =
    step-full number _ q done os at (record { opening = Vector; after = _; front = refl; ends = tt }) (omega (arith, s.0)) f
step-second number (prefixed x g t) after n q done os at s m f =
    step-full number _ q done os at (record { opening = Before x; after = g ++ spelled t after; front = refl; ends = s.1 }) (omega (arith, s.0)) f

-- what the levels say of the data that are open
held-close : (number : Numbers) (p : Place) (ts : Trees) (ls : Seq Level) (done : Seq Item) (os : Seq Pending) (s : LexemeState) (q : Place) (r : Seq ℕ)
    → Held number p ts ls done os → TakesNoClose ls → closing s q r os ≡ over (stopped q StrayClose r)
held-close number p ts [] done os s q r h k = ap (closing s q r) h.1
held-close number p ts (in_list g us ∷ ls) done os s q r h k = absurd k
held-close number p ts (at_dot g us j ∷ ls) done os s q r h k = absurd k
held-close number p ts (at_tail g us j i t ∷ ls) done os s q r h k = absurd k
held-close number p ts (in_vector g us ∷ ls) done os s q r h k = absurd k
held-close number p ts (at_prefix g x ∷ ls) done os s q r h k = ap (closing s q r) h.1.1.0

held-dot : (number : Numbers) (p : Place) (ts : Trees) (ls : Seq Level) (done : Seq Item) (os : Seq Pending) (s : LexemeState) (q : Place) (r : Seq ℕ)
    → Held number p ts ls done os → TakesNoDot ls → dot_step s q r os ≡ over (stopped q BadDot r)
unfolding MeansAll
held-dot number p ts [] done os s q r h k = ap (dot_step s q r) h.1
held-dot number p ts (in_list g no_tree ∷ ls) done os s q r h k =
    ap (dot_step s q r) (h.1.1.0 ∙ ap (λ ds. InList (place_behind (levels_behind p ts ls) g) ds ∷ h.1.0) h.1.1.1)
held-dot number p ts (in_list g (then_tree us i t) ∷ ls) done os s q r h k = absurd k
held-dot number p ts (at_dot g us j ∷ ls) done os s q r h k = ap (dot_step s q r) h.1.1.0
held-dot number p ts (at_tail g us j i t ∷ ls) done os s q r h k = ap (dot_step s q r) h.1.1.1.0
held-dot number p ts (in_vector g us ∷ ls) done os s q r h k = ap (dot_step s q r) h.1.1.0
held-dot number p ts (at_prefix g x ∷ ls) done os s q r h k = ap (dot_step s q r) h.1.1.0

held-at_dot : (number : Numbers) (p : Place) (ts : Trees) (ls : Seq Level) (done : Seq Item) (os : Seq Pending) (s : LexemeState) (q : Place) (r : Seq ℕ)
    (at : Place) → Held number p ts ls done os → EndsAtDot p ts ls at → closing s q r os ≡ over (stopped at BadDot r)
held-at_dot number p ts _ done os s q r _ h (ends_at_dot g us k ls) = ap (closing s q r) h.1.1.0

held-at_tail : (number : Numbers) (p : Place) (ts : Trees) (ls : Seq Level) (done : Seq Item) (os : Seq Pending)
    (at : Place) → Held number p ts ls done os → EndsAtTail p ts ls at → full_dot os ≡ Some at
held-at_tail number p ts _ done os _ h (ends_at_tail g us k i t ls) = ap full_dot h.1.1.1.0

held-innermost : (number : Numbers) (p : Place) (ts : Trees) (ls : Seq Level) (done : Seq Item) (os : Seq Pending)
    (at : Place) → Held number p ts ls done os → InnermostAt p ts ls at → ending done os ≡ over (stopped at UnclosedList [])
held-innermost number p ts _ done os _ h (innermost_at l ls) = by l h
  where
    by : (l : Level) → Held number p ts (l ∷ ls) done os
        → ending done os ≡ over (stopped (opening_place (levels_behind p ts ls) l) UnclosedList [])
    by (in_list g us) h = ap (ending done) h.1.1.0
    by (at_dot g us k) h = ap (ending done) h.1.1.0
    by (at_tail g us k i t) h = ap (ending done) h.1.1.1.0
    by (in_vector g us) h = ap (ending done) h.1.1.0
    by (at_prefix g x) h = ap (ending done) h.1.1.0

pub row-step : (number : Numbers) (p : Place) (ts : Trees) (ls : Seq Level) (q : Place) (rest : Seq ℕ) (at : Place) (r : Reason)
    (done : Seq Item) (os : Seq Pending) → Held number p ts ls done os → Row p ts ls q rest at r
    → step number (state rest q done os) ≡ over (stopped at r rest)
row-step number p ts ls q _ _ _ done os h (bad_byte b bs k) = step-fault number _ q done os 0 _ (faults-byte b bs k)
row-step number p ts ls q _ _ _ done os h (bad_byte_in_bars bs content b more i k) =
    step-fault-at number _ (124 ∷ bs) q done os (length bs + 1) BadByte (faults-bar-byte bs content b more i k)
    (front-taken bs (b ∷ more))
  where
    front-taken : (bs more : Seq ℕ) → take (length bs + 1) (124 ∷ (bs ++ more)) ≡ 124 ∷ bs
    front-taken bs more = ap (λ n. take n (124 ∷ (bs ++ more))) (add-one (length bs)) ∙ ap (λ w. 124 ∷ w) (take-append_seam bs more)
row-step number p ts ls q _ _ _ done os h (bad_byte_escaped bs content b more i k) =
    step-fault-at number _ (124 ∷ (bs ++ 92 ∷ [])) q done os (length bs + 2) BadByte (faults-bar-byte-escaped bs content b more i k)
    (front-taken bs (b ∷ more))
  where
    front-taken : (bs more : Seq ℕ) → take (length bs + 2) (124 ∷ (bs ++ 92 ∷ more)) ≡ 124 ∷ (bs ++ 92 ∷ [])
    front-taken bs more =
        let count : length bs + 2 ≡ length (124 ∷ (bs ++ 92 ∷ [])) = omega (arith, length-append bs (92 ∷ [])) in
        let all : 124 ∷ (bs ++ 92 ∷ more) ≡ (124 ∷ (bs ++ 92 ∷ [])) ++ more = ap (λ w. 124 ∷ w) (sym (append_assoc bs (92 ∷ []) more)) in
        ap (λ n. take n (124 ∷ (bs ++ 92 ∷ more))) count ∙ ap (take (length (124 ∷ (bs ++ 92 ∷ [])))) all
        ∙ take-append_seam (124 ∷ (bs ++ 92 ∷ [])) more
row-step number p ts ls q _ _ _ done os h (unclosed_list at k) =
    step-end number q done os ∙ held-innermost number p ts ls done os at h k
row-step number p ts ls q _ _ _ done os h (unclosed_string bs content i) = step-fault number _ q done os 0 _ (faults-string bs content i)
row-step number p ts ls q _ _ _ done os h (unclosed_string_escaped bs content i) = step-fault number _ q done os 0 _ (faults-string-escaped bs content i)
row-step number p ts ls q _ _ _ done os h (unclosed_bar bs content i) = step-fault number _ q done os 0 _ (faults-bar bs content i)
row-step number p ts ls q _ _ _ done os h (unclosed_bar_escaped bs content i) = step-fault number _ q done os 0 _ (faults-bar-escaped bs content i)
row-step number p ts ls q _ _ _ done os h (unclosed_comment bs n w) = step-open number _ q done os (open-skips n bs 0 0 w)
row-step number p ts ls q _ _ _ done os h (stray_close bs k) =
    step-close number bs q done os ∙ held-close number p ts ls done os (state bs (place_behind q (41 ∷ [])) done os) q _ h k
row-step number p ts ls q _ _ _ done os h (bad_dot bs k e) =
    step-dot number bs q done os e ∙ held-dot number p ts ls done os (state bs (place_behind q (46 ∷ [])) done os) q _ h k
row-step number p ts ls q _ _ _ done os h (dot_closed bs at k) =
    step-close number bs q done os ∙ held-at_dot number p ts ls done os (state bs (place_behind q (41 ∷ [])) done os) q _ at h k
row-step number p ts ls q _ _ _ done os h (dot_second t after at k s) =
    step-second number t after (length ls) q done os at s (sym (held-length number p ts ls done os h)) (held-at_tail number p ts ls done os at h k)
row-step number p ts ls q _ _ _ done os h (dot_opening bs at k o n) =
    step-full number bs q done os at (opens bs o) (omega (arith, held-length number p ts ls done os h)) (held-at_tail number p ts ls done os at h k)
row-step number p ts ls q _ _ _ done os h (bad_sharp bs k) = step-fault number _ q done os 0 _ (faults-sharp bs k)
row-step number p ts ls q _ _ _ done os h (float_literal w after t i f) = step-fault number _ q done os 0 _ (faults-float w after t i f)
row-step number p ts ls q _ _ _ done os h (integer_too_wide w after t i f) = step-fault number _ q done os 0 _ (faults-wide w after t i f)
row-step number p ts ls q _ _ _ done os h (based_too_wide letter base w after b t i f) = step-fault number _ q done os 0 _ (faults-based-wide letter base w after b t i f)
row-step number p ts ls q _ _ _ done os h (nest_too_deep bs o n) =
    step-deep number bs q done os (opens bs o) (held-length number p ts ls done os h ∙ n)
row-step number p ts ls q _ _ _ done os h (token_too_long w after t i f n) = step-fault number _ q done os 0 _ (faults-long w after t i f n)
row-step number p ts ls q _ _ _ done os h (bar_too_long bs name after i n) = step-fault number _ q done os 0 _ (faults-bar-long bs name after i n)
