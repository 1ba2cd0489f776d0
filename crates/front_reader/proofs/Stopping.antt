-- Where the machine stops, the text stops by the grammar, there and with that reason.
use Rattle.std.proofs.Common.{◌≡◌, ℕ, ◌≤◌, Bool, true, false, nat_le, List as Seq, [], ◌∷◌, ◌++◌, length, take, drop, Option, Some, None, refl, sym, ap, subst, ◌∙◌, arith, if◌then◌else◌, ◌⊎◌, inl, inr, ⊎_elim}
use Rattle.std.proofs.lemmas.List.{take-append-drop}
use Rattle.std.proofs.lemmas.Bool.{leb-true, leb-false}
use Rattle.std.proofs.Math.Seq.{drop-append_seam, take-append_seam}
use Rattle.base.specs.declared.place.Place.{Place}
use Rattle.base.specs.declared.reason.Reason.{Reason}
use Rattle.base.specs.declared.reason.Reason.TheVariants.{UnclosedList, UnclosedComment, StrayClose, BadDot, NestTooDeep}
use Rattle.base.specs.Data.{Item, Content}
use Rattle.front_reader.specs.declared.opening.Opening.{Opening}
use Rattle.front_reader.specs.declared.opening.Opening.TheVariants.{List, Vector, Before}
use Rattle.front_reader.specs.declared.opening.Prefix.TheVariants.{Quote, Quasiquote, Unquote, UnquoteSplicing, Function}
use Rattle.front_reader.specs.declared.lexeme.Lexeme.{Lexeme}
use Rattle.front_reader.specs.declared.lexeme.Lexeme.TheVariants.{Close, Dot, Open, Integer, Character, Token, Bar, Text}
use Rattle.front_reader.specs.declared.lexeme.Lexed.{Lexed}
use Rattle.front_reader.specs.declared.lexeme.Lexed.TheVariants.{Taken, Fault}
use Rattle.front_reader.specs.declared.gap.Mode.TheVariants.{Between}
use Rattle.front_reader.specs.declared.gap.Skipped.{Skipped}
use Rattle.front_reader.specs.declared.gap.Skipped.TheVariants.{Ends, OpenFrom}
use Rattle.front_reader.specs.declared.pending.Pending.{Pending}
use Rattle.front_reader.specs.declared.pending.Pending.TheVariants.{InList}
use Rattle.front_reader.specs.Characters.{begins, is_token, place_behind}
use Rattle.front_reader.specs.Gaps.{Gap}
use Rattle.front_reader.specs.Atoms.{Atom}
use Rattle.front_reader.specs.Trees.{atom, Trees, no_tree, then_tree, spelled, Stands}
use Rattle.front_reader.specs.Meanings.{atom_content, prefix_name, MeansAll}
use Rattle.front_reader.specs.Fronts.{Level, in_list, at_dot, at_tail, in_vector, at_prefix, levels_spelled, levels_behind, Front, IsFront, StandsLevels}
use Rattle.front_reader.specs.Stops.{Row, unclosed_list, unclosed_comment, stray_close, bad_dot, dot_closed, dot_second, dot_opening, nest_too_deep, Stops, ends_at_dot, ends_at_tail, EndsAtTail, innermost_at, BeginsOpening, list_next, vector_next, quote_next, quasiquote_next, unquote_next, function_next}
use Rattle.front_reader.specs.bridge.Lexemes.{skip, lex, atom_of}
use Rattle.front_reader.specs.bridge.Machine.{LexemeState, stopped, LexemeStep, over, full_dot, ending, closing, dot_step, prefix_step, opened, unless_full, opening_step, content_step, atom_step, act, by_lexed, by_rest, by_gap, step}
use Rattle.front_reader.proofs.Skips.{skip-ends, skip-open}
use Rattle.front_reader.proofs.Lexing.{spells-lexes, close-lexes, dot-lexes, open-lexes, opening_bytes}
use Rattle.front_reader.proofs.Faults.{fault-row}
use Rattle.front_reader.proofs.Stepping.{Numbers, state}
use Rattle.front_reader.proofs.Fronting.{Held, held-length}
use Rattle.front_reader.proofs.Sounding.{FrontedState}
use Rattle.front_reader.proofs.Completing.{means-some}
use Rattle.front_reader.proofs.TextLaws.{row-longest}

-- the text stops, and these trees are whole before
abbrev pub StopsNext : Place → Seq ℕ → Place → Reason → Trees → Type 0
StopsNext p text at r ts = (x : Stops p text at r) × (x.front.data_before ≡ ts)

-- a `)`
close-stops : (number : Numbers) (p : Place) (ts : Trees) (ls : Seq Level) (bs : Seq ℕ) (q at : Place) (done : Seq Item) (os : Seq Pending)
    (s : LexemeState) (r : Reason) (left : Seq ℕ) → Held number p ts ls done os
    → closing s q (41 ∷ bs) os ≡ over (stopped at r left) → Row p ts ls q (41 ∷ bs) at r
close-stops number p ts [] bs q at done os s r left h k =
    let f = ap (closing s q (41 ∷ bs)) h.1 in
    let x : q ≡ at = cc in let y : StrayClose ≡ r = cc in
    subst (λ a. Row p ts [] q (41 ∷ bs) a r) x (subst (Row p ts [] q (41 ∷ bs) q) y (stray_close bs tt))
close-stops number p ts (at_prefix g z ∷ ls) bs q at done os s r left h k =
    let f = ap (closing s q (41 ∷ bs)) h.1.1.0 in
    let x : q ≡ at = cc in let y : StrayClose ≡ r = cc in
    subst (λ a. Row p ts (at_prefix g z ∷ ls) q (41 ∷ bs) a r) x (subst (Row p ts (at_prefix g z ∷ ls) q (41 ∷ bs) q) y (stray_close bs tt))
close-stops number p ts (at_dot g us j ∷ ls) bs q at done os s r left h k =
    let f = ap (closing s q (41 ∷ bs)) h.1.1.0 in
    let x : _ ≡ at = cc in let y : BadDot ≡ r = cc in
    subst (λ a. Row p ts (at_dot g us j ∷ ls) q (41 ∷ bs) a r) x (subst (Row p ts (at_dot g us j ∷ ls) q (41 ∷ bs) _) y (dot_closed bs _ (ends_at_dot g us j ls)))
close-stops number p ts (in_list g us ∷ ls) bs q at done os s r left h k =
    let f = ap (closing s q (41 ∷ bs)) h.1.1.0 in absurd (cc)
close-stops number p ts (in_vector g us ∷ ls) bs q at done os s r left h k =
    let f = ap (closing s q (41 ∷ bs)) h.1.1.0 in absurd (cc)
close-stops number p ts (at_tail g us j i t ∷ ls) bs q at done os s r left h k =
    let f = ap (closing s q (41 ∷ bs)) h.1.1.1.0 in absurd (cc)

-- a dot
dot-stops : (number : Numbers) (p : Place) (ts : Trees) (ls : Seq Level) (bs : Seq ℕ) (q at : Place) (done : Seq Item) (os : Seq Pending)
    (s : LexemeState) (r : Reason) (left : Seq ℕ) → Held number p ts ls done os → begins is_token bs ≡ false
    → dot_step s q (46 ∷ bs) os ≡ over (stopped at r left) → Row p ts ls q (46 ∷ bs) at r
unfolding MeansAll
dot-stops number p ts [] bs q at done os s r left h e k =
    let f = ap (dot_step s q (46 ∷ bs)) h.1 in
    let x : q ≡ at = cc in let y : BadDot ≡ r = cc in
    subst (λ a. Row p ts [] q (46 ∷ bs) a r) x (subst (Row p ts [] q (46 ∷ bs) q) y (bad_dot bs tt e))
dot-stops number p ts (at_prefix g z ∷ ls) bs q at done os s r left h e k =
    let f = ap (dot_step s q (46 ∷ bs)) h.1.1.0 in
    let x : q ≡ at = cc in let y : BadDot ≡ r = cc in
    subst (λ a. Row p ts (at_prefix g z ∷ ls) q (46 ∷ bs) a r) x (subst (Row p ts (at_prefix g z ∷ ls) q (46 ∷ bs) q) y (bad_dot bs tt e))
dot-stops number p ts (at_dot g us j ∷ ls) bs q at done os s r left h e k =
    let f = ap (dot_step s q (46 ∷ bs)) h.1.1.0 in
    let x : q ≡ at = cc in let y : BadDot ≡ r = cc in
    subst (λ a. Row p ts (at_dot g us j ∷ ls) q (46 ∷ bs) a r) x (subst (Row p ts (at_dot g us j ∷ ls) q (46 ∷ bs) q) y (bad_dot bs tt e))
dot-stops number p ts (in_vector g us ∷ ls) bs q at done os s r left h e k =
    let f = ap (dot_step s q (46 ∷ bs)) h.1.1.0 in
    let x : q ≡ at = cc in let y : BadDot ≡ r = cc in
    subst (λ a. Row p ts (in_vector g us ∷ ls) q (46 ∷ bs) a r) x (subst (Row p ts (in_vector g us ∷ ls) q (46 ∷ bs) q) y (bad_dot bs tt e))
dot-stops number p ts (at_tail g us j i t ∷ ls) bs q at done os s r left h e k =
    let f = ap (dot_step s q (46 ∷ bs)) h.1.1.1.0 in
    let x : q ≡ at = cc in let y : BadDot ≡ r = cc in
    subst (λ a. Row p ts (at_tail g us j i t ∷ ls) q (46 ∷ bs) a r) x (subst (Row p ts (at_tail g us j i t ∷ ls) q (46 ∷ bs) q) y (bad_dot bs tt e))
dot-stops number p ts (in_list g no_tree ∷ ls) bs q at done os s r left h e k =
    let f = ap (dot_step s q (46 ∷ bs)) (h.1.1.0 ∙ ap (λ ds. InList (place_behind (levels_behind p ts ls) g) ds ∷ h.1.0) h.1.1.1) in
    let x : q ≡ at = cc in let y : BadDot ≡ r = cc in
    subst (λ a. Row p ts (in_list g no_tree ∷ ls) q (46 ∷ bs) a r) x (subst (Row p ts (in_list g no_tree ∷ ls) q (46 ∷ bs) q) y (bad_dot bs tt e))
dot-stops number p ts (in_list g (then_tree us i t) ∷ ls) bs q at done os s r left h e k =
    let some = means-some number _ (then_tree us i t) h.0 tt h.1.1.1 in
    let f = ap (dot_step s q (46 ∷ bs)) (h.1.1.0 ∙ ap (λ ds. InList (place_behind (levels_behind p ts ls) g) ds ∷ h.1.0) some.1.1) in absurd (cc)

-- a full dot is that of the innermost level
full-at : (number : Numbers) (p : Place) (ts : Trees) (ls : Seq Level) (done : Seq Item) (os : Seq Pending) (at : Place)
    → Held number p ts ls done os → full_dot os ≡ Some at → EndsAtTail p ts ls at
full-at number p ts [] done os at h k = let f = ap full_dot h.1 in absurd (cc)
full-at number p ts (in_list g us ∷ ls) done os at h k = let f = ap full_dot h.1.1.0 in absurd (cc)
full-at number p ts (at_dot g us j ∷ ls) done os at h k = let f = ap full_dot h.1.1.0 in absurd (cc)
full-at number p ts (in_vector g us ∷ ls) done os at h k = let f = ap full_dot h.1.1.0 in absurd (cc)
full-at number p ts (at_prefix g x ∷ ls) done os at h k = let f = ap full_dot h.1.1.0 in absurd (cc)
full-at number p ts (at_tail g us j i t ∷ ls) done os at h k =
    let f = ap full_dot h.1.1.1.0 in
    let same : _ ≡ at = cc in
    subst (EndsAtTail p ts (at_tail g us j i t ∷ ls)) same (ends_at_tail g us j i t ls)

-- what a choice that stops says
unless-stops : (o : Option Place) (r : Seq ℕ) (x : LexemeStep) (at : Place) (reason : Reason) (left : Seq ℕ)
    → unless_full o r x ≡ over (stopped at reason left)
    → ((o ≡ Some at) × (BadDot ≡ reason)) ⊎ (x ≡ over (stopped at reason left))
unless-stops None r x at reason left e = inr e
unless-stops (Some d) r x at reason left e = inl (cc, cc)

content-goes : (s : LexemeState) (q : Place) (c : Option Content) (at : Place) (r : Reason) (left : Seq ℕ)
    → content_step s q c ≡ over (stopped at r left) → ⊥
content-goes s q None at r left e = cc
content-goes s q (Some c) at r left e = cc

opened-goes : (number : Numbers) (s : LexemeState) (q : Place) (o : Opening) (at : Place) (r : Reason) (left : Seq ℕ)
    → opened number s q o ≡ over (stopped at r left) → ⊥
opened-goes number s q List at r left e = cc
opened-goes number s q Vector at r left e = cc
opened-goes number s q (Before x) at r left e = by (number (prefix_name x)) e
  where
    by : (n : Option ℕ) → prefix_step s q n ≡ over (stopped at r left) → ⊥
    by None e = cc
    by (Some n) e = cc

begins-opening : (o : Opening) (bs : Seq ℕ) → BeginsOpening (opening_bytes o ++ bs)
begins-opening List bs = list_next bs
begins-opening Vector bs = vector_next bs
begins-opening (Before Quote) bs = quote_next bs
begins-opening (Before Quasiquote) bs = quasiquote_next bs
begins-opening (Before Unquote) bs = unquote_next bs
begins-opening (Before UnquoteSplicing) bs = unquote_next (64 ∷ bs)
begins-opening (Before Function) bs = function_next bs

-- an opening
opening-stops : (number : Numbers) (p : Place) (ts : Trees) (ls : Seq Level) (bs : Seq ℕ) (q at : Place) (done : Seq Item)
    (s : LexemeState) (o : Opening) (r : Reason) (left : Seq ℕ) → Held number p ts ls done s.pending → length s.pending ≤ 256 → BeginsOpening bs
    → opening_step number s q bs o ≡ over (stopped at r left) → Row p ts ls q bs at r
opening-stops number p ts ls bs q at done s o r left h n b k = by (nat_le 256 (length s.pending)) refl k
  where
    by : (x : Bool) → nat_le 256 (length s.pending) ≡ x
        → (if x then over (stopped q NestTooDeep bs) else unless_full (full_dot s.pending) bs (opened number s q o)) ≡ over (stopped at r left)
        → Row p ts ls q bs at r
    by true e k =
        let x : q ≡ at = cc in let y : NestTooDeep ≡ r = cc in
        let deep : length ls ≡ 256 = omega (arith, leb-true 256 (length s.pending) e, held-length number p ts ls done s.pending h) in
        subst (λ a. Row p ts ls q bs a r) x (subst (Row p ts ls q bs q) y (nest_too_deep bs b deep))
    by false e k =
        ⊎_elim (λ f. subst (Row p ts ls q bs at) f.1
        (dot_opening bs at (full-at number p ts ls done s.pending at h f.0) b
        (omega (arith, leb-false 256 (length s.pending) e, held-length number p ts ls done s.pending h))))
        (λ f. absurd (opened-goes number s q o at r left f))
        (unless-stops (full_dot s.pending) bs (opened number s q o) at r left k)

-- an atom
atom-stops : (number : Numbers) (p : Place) (ts : Trees) (ls : Seq Level) (after : Seq ℕ) (n : ℕ) (x : Lexeme) (a : Option Atom) (q at : Place)
    (done : Seq Item) (s : LexemeState) (r : Reason) (left : Seq ℕ) → Held number p ts ls done s.pending
    → lex after ≡ Taken n x → atom_of x (take n after) ≡ a
    → atom_step number s q after a ≡ over (stopped at r left) → Row p ts ls q after at r
unfolding spelled Stands
atom-stops number p ts ls after n x None q at done s r left h l m k = absurd (cc)
atom-stops number p ts ls after n x (Some a) q at done s r left h l m k =
    ⊎_elim (λ f. subst (Row p ts ls q after at) f.1
    (subst (λ all. Row p ts ls q all at BadDot) (take-append-drop n after)
    (dot_second (atom (take n after) a) (drop n after) at (full-at number p ts ls done s.pending at h f.0) (spells-lexes after n x a l m))))
    (λ f. absurd (content-goes s q (atom_content number a) at r left f))
    (unless-stops (full_dot s.pending) after (content_step s q (atom_content number a)) at r left k)

-- a lexeme
act-stops : (number : Numbers) (p : Place) (ts : Trees) (ls : Seq Level) (after : Seq ℕ) (n : ℕ) (x : Lexeme) (q at : Place)
    (done : Seq Item) (s : LexemeState) (r : Reason) (left : Seq ℕ) → Held number p ts ls done s.pending → length s.pending ≤ 256
    → lex after ≡ Taken n x
    → act number s q after (take n after) x ≡ over (stopped at r left) → Row p ts ls q after at r
act-stops number p ts ls after n (Integer i) q at done s r left h d l k = atom-stops number p ts ls after n (Integer i) _ q at done s r left h l refl k
act-stops number p ts ls after n (Character i) q at done s r left h d l k = atom-stops number p ts ls after n (Character i) _ q at done s r left h l refl k
act-stops number p ts ls after n Token q at done s r left h d l k = atom-stops number p ts ls after n Token _ q at done s r left h l refl k
act-stops number p ts ls after n Bar q at done s r left h d l k = atom-stops number p ts ls after n Bar _ q at done s r left h l refl k
act-stops number p ts ls after n Text q at done s r left h d l k = atom-stops number p ts ls after n Text _ q at done s r left h l refl k
act-stops number p ts ls after n Close q at done s r left h d l k =
    let c = close-lexes after n l in
    let K : Seq ℕ → Type 0 = λ all. closing s q all s.pending ≡ over (stopped at r left) in
    subst (λ all. Row p ts ls q all at r) (sym c.1.0) (close-stops number p ts ls c.0 q at done s.pending s r left h (subst K c.1.0 k))
act-stops number p ts ls after n Dot q at done s r left h d l k =
    let c = dot-lexes after n l in
    let K : Seq ℕ → Type 0 = λ all. dot_step s q all s.pending ≡ over (stopped at r left) in
    subst (λ all. Row p ts ls q all at r) (sym c.1.0) (dot-stops number p ts ls c.0 q at done s.pending s r left h c.1.2 (subst K c.1.0 k))
act-stops number p ts ls after n (Open o) q at done s r left h d l k =
    let c = open-lexes after n o l in
    opening-stops number p ts ls after q at done s o r left h d (subst BeginsOpening (sym c.1.0) (begins-opening o c.0)) k

-- the end of the text
end-stops : (number : Numbers) (p : Place) (ts : Trees) (ls : Seq Level) (q at : Place) (done : Seq Item) (os : Seq Pending) (r : Reason) (left : Seq ℕ)
    → Held number p ts ls done os → ending done os ≡ over (stopped at r left) → Row p ts ls q [] at r
end-stops number p ts [] q at done os r left h k = let f = ap (ending done) h.1 in absurd (cc)
end-stops number p ts (in_list g us ∷ ls) q at done os r left h k =
    let f = ap (ending done) h.1.1.0 in let x : _ ≡ at = cc in let y : UnclosedList ≡ r = cc in
    subst (λ a. Row p ts (in_list g us ∷ ls) q [] a r) x (subst (Row p ts (in_list g us ∷ ls) q [] _) y (unclosed_list _ (innermost_at (in_list g us) ls)))
end-stops number p ts (at_dot g us j ∷ ls) q at done os r left h k =
    let f = ap (ending done) h.1.1.0 in let x : _ ≡ at = cc in let y : UnclosedList ≡ r = cc in
    subst (λ a. Row p ts (at_dot g us j ∷ ls) q [] a r) x (subst (Row p ts (at_dot g us j ∷ ls) q [] _) y (unclosed_list _ (innermost_at (at_dot g us j) ls)))
end-stops number p ts (at_tail g us j i t ∷ ls) q at done os r left h k =
    let f = ap (ending done) h.1.1.1.0 in let x : _ ≡ at = cc in let y : UnclosedList ≡ r = cc in
    subst (λ a. Row p ts (at_tail g us j i t ∷ ls) q [] a r) x (subst (Row p ts (at_tail g us j i t ∷ ls) q [] _) y (unclosed_list _ (innermost_at (at_tail g us j i t) ls)))
end-stops number p ts (in_vector g us ∷ ls) q at done os r left h k =
    let f = ap (ending done) h.1.1.0 in let x : _ ≡ at = cc in let y : UnclosedList ≡ r = cc in
    subst (λ a. Row p ts (in_vector g us ∷ ls) q [] a r) x (subst (Row p ts (in_vector g us ∷ ls) q [] _) y (unclosed_list _ (innermost_at (in_vector g us) ls)))
end-stops number p ts (at_prefix g z ∷ ls) q at done os r left h k =
    let f = ap (ending done) h.1.1.0 in let x : _ ≡ at = cc in let y : UnclosedList ≡ r = cc in
    subst (λ a. Row p ts (at_prefix g z ∷ ls) q [] a r) x (subst (Row p ts (at_prefix g z ∷ ls) q [] _) y (unclosed_list _ (innermost_at (at_prefix g z) ls)))

stands-depth : (ts : Trees) (ls : Seq Level) (r : Seq ℕ) → StandsLevels ts ls r → length ls ≤ 256
stands-depth ts [] r s = omega arith
stands-depth ts (l ∷ ls) r s = omega (arith, s.1)

-- what a row describes behind a front and a gap is a stop
row-stops : (number : Numbers) (text : Seq ℕ) (p : Place) (s : LexemeState) (f : FrontedState number text p s) (g after : Seq ℕ) (at : Place) (r : Reason)
    → s.rest ≡ g ++ after → Gap g after
    → Row p f.trees f.levels (place_behind s.place g) after at r → StopsNext p text at r f.trees
row-stops number text p s f g after at r e gap w =
    let front : Front = record { data_before = f.trees; levels = f.levels; gap = g } in
    let is : IsFront text front after = record {
      spells = f.spells ∙ ap (levels_spelled f.trees f.levels) e;
      stands = subst (StandsLevels f.trees f.levels) e f.stands;
      is_gap = gap;
    } in
    let row = subst (λ q. Row p f.trees f.levels (place_behind q g) after at r) f.place w in
    (record { front = front; rest = after; is_front = is; is_longest = row-longest p text front after at r is row; row = row }, refl)

-- where the machine stops, the text stops
pub step-stops : (number : Numbers) (text : Seq ℕ) (p : Place) (s : LexemeState) (at : Place) (r : Reason) (left : Seq ℕ) (f : FrontedState number text p s)
    → step number s ≡ over (stopped at r left) → StopsNext p text at r f.trees
unfolding step by_gap by_rest by_lexed
step-stops number text p s at r left f e = by (skip Between 0 0 s.rest) refl e
  where
    rests : (after g : Seq ℕ) → s.rest ≡ g ++ after → Gap g after → skip Between 0 0 after ≡ Ends 0
        → by_rest number (state after (place_behind s.place g) s.done s.pending) after ≡ over (stopped at r left)
        → StopsNext p text at r f.trees
    rests [] g i gap clear k =
        row-stops number text p s f g [] at r i gap
        (end-stops number p f.trees f.levels (place_behind s.place g) at s.done s.pending r left f.held k)
    rests (b ∷ bs) g i gap clear k = lexes (lex (b ∷ bs)) refl k
      where
        lexes : (l : Lexed) → lex (b ∷ bs) ≡ l
            → by_lexed number (state (b ∷ bs) (place_behind s.place g) s.done s.pending) l ≡ over (stopped at r left)
            → StopsNext p text at r f.trees
        lexes (Fault m x) j k =
            let q = place_behind s.place g in
            let same : place_behind q (take m (b ∷ bs)) ≡ at = cc in let reason : x ≡ r = cc in
            row-stops number text p s f g (b ∷ bs) at r i gap
            (subst (λ a. Row p f.trees f.levels q (b ∷ bs) a r) same
            (subst (Row p f.trees f.levels q (b ∷ bs) (place_behind q (take m (b ∷ bs)))) reason
            (fault-row (b ∷ bs) m x (omega arith) clear j p f.trees f.levels q)))
        lexes (Taken n x) j k =
            row-stops number text p s f g (b ∷ bs) at r i gap
            (act-stops number p f.trees f.levels (b ∷ bs) n x (place_behind s.place g) at s.done
            (state (drop n (b ∷ bs)) (place_behind (place_behind s.place g) (take n (b ∷ bs))) s.done s.pending) r left f.held
            (omega (arith, held-length number p f.trees f.levels s.done s.pending f.held, stands-depth f.trees f.levels s.rest f.stands)) j k)

    by : (x : Skipped) → skip Between 0 0 s.rest ≡ x → by_gap number s x ≡ over (stopped at r left) → StopsNext p text at r f.trees
    by (OpenFrom n) i k =
        let a = skip-open s.rest n i in
        let taken : take n s.rest ≡ a.gap =
        ap (take n) a.front ∙ ap (λ m. take m (a.gap ++ 35 ∷ 124 ∷ a.inner)) a.count ∙ take-append_seam a.gap (35 ∷ 124 ∷ a.inner) in
        let there : place_behind s.place a.gap ≡ place_behind s.place (take n s.rest) = ap (place_behind s.place) (sym taken) in
        let same : place_behind s.place a.gap ≡ at = cc in let reason : UnclosedComment ≡ r = cc in
        let q = place_behind s.place a.gap in
        let rest = 35 ∷ 124 ∷ a.inner in
        row-stops number text p s f a.gap rest at r a.front a.is_gap
        (subst (λ b. Row p f.trees f.levels q rest b r) same
        (subst (Row p f.trees f.levels q rest q) reason (unclosed_comment a.inner a.depth a.within)))
    by (Ends n) i k =
        let a = skip-ends s.rest n i in
        let K : Seq ℕ → ℕ → Type 0 = λ all m. by_rest number (state (drop m all) (place_behind s.place (take m all)) s.done s.pending) (drop m all) ≡ over (stopped at r left) in
        let k2 : K (a.gap ++ a.after) (length a.gap) = subst (λ all. K all (length a.gap)) a.front (subst (K s.rest) a.count k) in
        let L : Seq ℕ → Type 0 = λ v. by_rest number (state v (place_behind s.place (take (length a.gap) (a.gap ++ a.after))) s.done s.pending) v ≡ over (stopped at r left) in
        let M : Seq ℕ → Type 0 = λ w. by_rest number (state a.after (place_behind s.place w) s.done s.pending) a.after ≡ over (stopped at r left) in
        rests a.after a.gap a.front a.is_gap a.stops
        (subst M (take-append_seam a.gap a.after) (subst L (drop-append_seam a.gap a.after) k2))
