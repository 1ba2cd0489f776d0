-- What comes next in a text is one datum, a stop or the end.
use Rattle.std.proofs.Common.{◌≡◌, ℕ, ◌+◌, ◌<◌, ◌≤◌, true, false, nat_le, List as Seq, [], ◌∷◌, ◌++◌, length, take, drop, Option, Some, None, refl, sym, ap, subst, ◌∙◌, arith, if◌then◌else◌, ◌⊎◌, inl, inr, ⊎_elim, length-append, append_assoc}
use Rattle.base.specs.declared.place.Place.{Place}
use Rattle.base.specs.declared.reason.Reason.{Reason}
use Rattle.base.specs.declared.reason.Reason.TheVariants.{NestTooDeep}
use Rattle.base.specs.Data.{Item, Content}
use Rattle.front_reader.specs.declared.opening.Opening.{Opening}
use Rattle.front_reader.specs.declared.opening.Opening.TheVariants.{List, Vector, Before}
use Rattle.front_reader.specs.declared.lexeme.Lexeme.{Lexeme}
use Rattle.front_reader.specs.declared.lexeme.Lexed.{Lexed}
use Rattle.front_reader.specs.declared.lexeme.Lexed.TheVariants.{Taken, Fault}
use Rattle.front_reader.specs.declared.gap.Mode.TheVariants.{Between}
use Rattle.front_reader.specs.declared.gap.Skipped.{Skipped}
use Rattle.front_reader.specs.declared.gap.Skipped.TheVariants.{Ends, OpenFrom}
use Rattle.front_reader.specs.declared.pending.Pending.{Pending}
use Rattle.front_reader.specs.declared.pending.Pending.TheVariants.{InList, AtDot, AtTail, InVector, AtPrefix}
use Rattle.front_reader.specs.Characters.{place_behind}
use Rattle.front_reader.specs.Gaps.{Gap}
use Rattle.front_reader.specs.Atoms.{Atom}
use Rattle.front_reader.specs.Meanings.{number_in, atom_content, prefix_name}
use Rattle.front_reader.specs.bridge.Lexemes.{skip, lex}
use Rattle.front_reader.specs.bridge.Machine.{LexemeState, LexemesEnd, finished, stopped, LexemeStep, next, over, moved, put, full_dot, ending, closing, dot_step, prefix_step, opened, unless_full, opening_step, content_step, atom_step, act, by_lexed, by_rest, by_gap, step, LexemeSteps, none, more, put_in}
use Rattle.front_reader.specs.Trees.{Trees, no_tree, then_tree, spelled, spelled_all, behind, StandsAll}
use Rattle.front_reader.specs.Meanings.{MeansAll, prefix_item}
use Rattle.front_reader.specs.Reads.{ReadsNext}
use Rattle.front_reader.specs.Fronts.{Level, in_list, at_dot, at_tail, in_vector, at_prefix, levels_behind, front_behind}
use Rattle.front_reader.specs.Stops.{StopsFirst}
use Rattle.front_reader.proofs.Stepping.{Numbers, state, step-gap, place_behind-append}
use Rattle.front_reader.proofs.EachAct.{at-act}
use Rattle.front_reader.proofs.Completing.{tree-steps}
use Rattle.front_reader.proofs.Fronting.{Held, front-steps, all_zero, means-exists, held-exists}
use Rattle.front_reader.proofs.Rows.{row-step}
use Rattle.front_reader.proofs.TextLaws.{last-step, reads_or_stops}
use Rattle.front_reader.proofs.Answering.{same-front}

-- one where something is open
abbrev some_open : Seq Pending → ℕ
some_open [] = 0
some_open (o ∷ os) = 1

-- behind the step more than n data are whole, or n and something is open
abbrev DataGrow : ℕ → LexemeStep → Type 0
DataGrow n (next t) = n < length t.done + some_open t.pending
DataGrow n (over o) = Unit {0}

put_in-grows : (r : Seq ℕ) (p : Place) (done : Seq Item) (os : Seq Pending) (d : Item)
    → length done < length (put_in r p done os d).done + some_open (put_in r p done os d).pending
unfolding put_in
put_in-grows r p done [] d = omega (arith, length-append done (d ∷ []))
put_in-grows r p done (AtPrefix q n ∷ os) d = put_in-grows r p done os (prefix_item q n.0 d)
put_in-grows r p done (InList q ds ∷ os) d = omega arith
put_in-grows r p done (InVector q ds ∷ os) d = omega arith
put_in-grows r p done (AtDot q ds at ∷ os) d = omega arith
put_in-grows r p done (AtTail q ds at e ∷ os) d = omega arith

put-grows : (s : LexemeState) (os : Seq Pending) (d : Item) → DataGrow (length s.done) (put s os d)
put-grows s os d = put_in-grows s.rest s.place s.done os d

closing-grows : (s : LexemeState) (p : Place) (r : Seq ℕ) (os : Seq Pending) → DataGrow (length s.done) (closing s p r os)
closing-grows s p r [] = tt
closing-grows s p r (AtPrefix q n ∷ os) = tt
closing-grows s p r (InList q ds ∷ os) = put-grows s os _
closing-grows s p r (InVector q ds ∷ os) = put-grows s os _
closing-grows s p r (AtDot q ds at ∷ os) = tt
closing-grows s p r (AtTail q ds at d ∷ os) = put-grows s os _

dot-grows : (s : LexemeState) (p : Place) (r : Seq ℕ) (os : Seq Pending) → DataGrow (length s.done) (dot_step s p r os)
dot-grows s p r [] = tt
dot-grows s p r (AtPrefix q n ∷ os) = tt
dot-grows s p r (InList q [] ∷ os) = tt
dot-grows s p r (InList q (d ∷ ds) ∷ os) = omega arith
dot-grows s p r (InVector q ds ∷ os) = tt
dot-grows s p r (AtDot q ds at ∷ os) = tt
dot-grows s p r (AtTail q ds at d ∷ os) = tt

full-grows : (n : ℕ) (o : Option Place) (r : Seq ℕ) (x : LexemeStep) → DataGrow n x → DataGrow n (unless_full o r x)
full-grows n None r x h = h
full-grows n (Some at) r x h = tt

prefix-grows : (s : LexemeState) (p : Place) (n : Option ℕ) → DataGrow (length s.done) (prefix_step s p n)
prefix-grows s p None = tt
prefix-grows s p (Some n) = omega arith

opened-grows : (number : Numbers) (s : LexemeState) (p : Place) (o : Opening) → DataGrow (length s.done) (opened number s p o)
opened-grows number s p List = omega arith
opened-grows number s p Vector = omega arith
opened-grows number s p (Before x) = prefix-grows s p (number (prefix_name x))

opening-grows : (number : Numbers) (s : LexemeState) (p : Place) (r : Seq ℕ) (o : Opening) → DataGrow (length s.done) (opening_step number s p r o)
opening-grows number s p r o =
    elim (nat_le 256 (length s.pending)) as (λ b. DataGrow (length s.done) (if b then over (stopped p NestTooDeep r) else unless_full (full_dot s.pending) r (opened number s p o))) [
      | true ↦ tt
      | false ↦ full-grows (length s.done) (full_dot s.pending) r _ (opened-grows number s p o)
    ]

content-grows : (s : LexemeState) (p : Place) (c : Option Content) → DataGrow (length s.done) (content_step s p c)
content-grows s p None = tt
content-grows s p (Some c) = put-grows s s.pending _

atom-grows : (number : Numbers) (s : LexemeState) (p : Place) (r : Seq ℕ) (a : Option Atom) → DataGrow (length s.done) (atom_step number s p r a)
atom-grows number s p r None = tt
atom-grows number s p r (Some a) = full-grows (length s.done) (full_dot s.pending) r _ (content-grows s p (atom_content number a))

act-grows : (number : Numbers) (s : LexemeState) (p : Place) (r w : Seq ℕ) (x : Lexeme) → DataGrow (length s.done) (act number s p r w x)
act-grows number s p r w x = at-act (DataGrow (length s.done)) number s p r w (record {
  closes = closing-grows s p r s.pending;
  dots = dot-grows s p r s.pending;
  opens = opening-grows number s p r;
  reads = atom-grows number s p r;
}) x

lexed-grows : (number : Numbers) (s : LexemeState) (x : Lexed) → DataGrow (length s.done) (by_lexed number s x)
unfolding by_lexed
lexed-grows number s (Fault k r) = tt
lexed-grows number s (Taken n x) = act-grows number (moved n s) s.place s.rest (take n s.rest) x

rest-grows : (number : Numbers) (s : LexemeState) (r : Seq ℕ) → DataGrow (length s.done) (by_rest number s r)
unfolding by_rest
rest-grows number s [] = by s.done s.pending
  where
    by : (done : Seq Item) (os : Seq Pending) → DataGrow (length s.done) (ending done os)
    by done [] = tt
    by done (o ∷ os) = tt
rest-grows number s (b ∷ bs) = lexed-grows number s (lex (b ∷ bs))

gap-grows : (number : Numbers) (s : LexemeState) (x : Skipped) → DataGrow (length s.done) (by_gap number s x)
unfolding by_gap
gap-grows number s (OpenFrom n) = tt
gap-grows number s (Ends n) = rest-grows number (moved n s) (drop n s.rest)

step-grows : (number : Numbers) (s : LexemeState) → DataGrow (length s.done) (step number s)
unfolding step
step-grows number s = gap-grows number s (skip Between 0 0 s.rest)

one-open : (os : Seq Pending) → some_open os ≤ 1
one-open [] = omega arith
one-open (o ∷ os) = omega arith

steps-grow : (number : Numbers) (s t : LexemeState) → LexemeSteps number s t → length s.done ≤ length t.done
steps-grow number s t (none v) = omega arith
steps-grow number s t (more v w x a e) =
    let one : length w.done < length x.done + some_open x.pending = subst (DataGrow (length w.done)) e (step-grows number w) in
    omega (arith, one, one-open x.pending, steps-grow number v w a)

-- the first of some steps
record First (number : Numbers) (s t : LexemeState) : Type 0 where
  pub state_then : LexemeState
  pub one : step number s ≡ next state_then
  pub others : LexemeSteps number state_then t

steps-first : (number : Numbers) (s t : LexemeState) → LexemeSteps number s t → (s ≡ t) ⊎ First number s t
steps-first number s t (none v) = inl refl
steps-first number s t (more v w x a e) =
    ⊎_elim (λ k. inr (record { state_then = x; one = ap (step number) k ∙ e; others = none x }))
    (λ f. inr (record { state_then = f.state_then; one = f.one; others = more f.state_then w x f.others e }))
    (steps-first number v w a)

-- one way leads to where the machine stops
steps-on : (number : Numbers) (s a b : LexemeState) (o : LexemesEnd) → LexemeSteps number s a → LexemeSteps number s b → step number b ≡ over o → LexemeSteps number a b
steps-on number s a b o (none v) y e = y
steps-on number s a b o (more v w x k f) y e =
    ⊎_elim (λ g. absurd (let no : next x ≡ over o = sym f ∙ ap (step number) g ∙ e in cc))
    (λ g. let same : g.state_then ≡ x = (let h = sym g.one ∙ f in cc) in subst (λ z. LexemeSteps number z b) same g.others)
    (steps-first number w b (steps-on number v w b o k y e))

held-none : (number : Numbers) (p : Place) (ts : Trees) (ls : Seq Level) (done : Seq Item) (os : Seq Pending)
    → Held number p ts ls done os → ts ≡ no_tree → done ≡ []
unfolding MeansAll
held-none number p no_tree [] done os h e = h.0
held-none number p (then_tree ts g t) [] done os h e = absurd (cc)
held-none number p ts (in_list g us ∷ ls) done os h e = held-none number p ts ls done h.1.0 h.1.1.2 e
held-none number p ts (at_dot g us k ∷ ls) done os h e = held-none number p ts ls done h.1.0 h.1.1.2 e
held-none number p ts (at_tail g us k i t ∷ ls) done os h e = held-none number p ts ls done h.1.0 h.1.1.1.2 e
held-none number p ts (in_vector g us ∷ ls) done os h e = held-none number p ts ls done h.1.0 h.1.1.2 e
held-none number p ts (at_prefix g x ∷ ls) done os h e = held-none number p ts ls done h.1.0 h.1.1.2 e

pub next_or_stops : (names : Seq (Seq ℕ)) (text : Seq ℕ) (p : Place) (d : Item) (after : Seq ℕ) (at : Place) (r : Reason)
    → ReadsNext names text p d after → StopsFirst p text at r → ⊥
unfolding put_in
next_or_stops names text p d after at r n x =
    let t = n.reads.tree in
    let m = means-exists (place_behind p n.gap) t in
    let gap = subst (Gap n.gap) n.reads.spells n.is_gap in
    let front : text ≡ n.gap ++ spelled t after = n.front ∙ ap (λ v. n.gap ++ v) n.reads.spells in
    let one = tree-steps all_zero t n.gap after p [] [] m.0 gap n.reads.stands m.1 refl in
    let u = put_in after (behind (place_behind p n.gap) t) [] [] m.0 in
    let there : LexemeSteps all_zero (state text p [] []) u =
    subst (λ v. LexemeSteps all_zero (state v p [] []) u) (sym front) one in
    let f = x.stops.front in
    let h = held-exists p f.data_before f.levels in
    let b = state (f.gap ++ x.stops.rest) (levels_behind p f.data_before f.levels) h.0 h.1.0 in
    let way : LexemeSteps all_zero (state text p [] []) b = subst (λ v. LexemeSteps all_zero (state v p [] []) b) (sym x.stops.is_front.spells)
    (front-steps all_zero p f.data_before f.levels (f.gap ++ x.stops.rest) h.0 h.1.0 x.stops.is_front.stands h.1.1) in
    let end = step-gap all_zero f.gap x.stops.rest (levels_behind p f.data_before f.levels) h.0 h.1.0 x.stops.is_front.is_gap
    ∙ row-step all_zero p f.data_before f.levels (front_behind p f) x.stops.rest at r h.0 h.1.0 h.1.1 x.stops.row in
    let on : LexemeSteps all_zero u b = steps-on all_zero (state text p [] []) u b (stopped at r x.stops.rest) there way end in
    let grown : 1 ≤ length h.0 = steps-grow all_zero u b on in
    let empty = held-none all_zero p f.data_before f.levels h.0 h.1.0 h.1.1 x.first in
    absurd (omega (arith, grown, ap length empty))

-- of two ways from one state, one goes on with the other
two-ways : (number : Numbers) (s a b : LexemeState) → LexemeSteps number s a → LexemeSteps number s b → LexemeSteps number a b ⊎ LexemeSteps number b a
two-ways number s a b (none v) y = inl y
two-ways number s a b (more v w x k f) y =
    ⊎_elim
    (λ on. ⊎_elim
    (λ same. inr (more b b x (none b) (ap (step number) (sym same) ∙ f)))
    (λ first. let at : first.state_then ≡ x = (let h = sym first.one ∙ f in cc) in inl (subst (λ z. LexemeSteps number z b) at first.others))
    (steps-first number w b on))
    (λ back. inr (more b w x back f))
    (two-ways number v w b k y)

-- from one whole datum no step leads to one whole datum
same-whole : (number : Numbers) (a b : LexemeState) → LexemeSteps number a b → length a.done ≡ 1 → length b.done ≡ 1 → b.pending ≡ [] → a ≡ b
same-whole number a b (none v) h k e = refl
same-whole number a b (more v w x y f) h k e =
    let one : length w.done < length x.done + some_open x.pending = subst (DataGrow (length w.done)) f (step-grows number w) in
    absurd (omega (arith, one, steps-grow number v w y, h, k, ap some_open e))

-- the first datum of a text, whole
datum-whole : (names : Seq (Seq ℕ)) (text : Seq ℕ) (p : Place) (d : Item) (after : Seq ℕ) → (n : ReadsNext names text p d after)
    → LexemeSteps (number_in names) (state text p [] []) (state after (behind (place_behind p n.gap) n.reads.tree) (d ∷ []) [])
unfolding put_in
datum-whole names text p d after n =
    let t = n.reads.tree in
    let front : text ≡ n.gap ++ spelled t after = n.front ∙ ap (λ v. n.gap ++ v) n.reads.spells in
    subst (λ v. LexemeSteps (number_in names) (state v p [] []) (state after (behind (place_behind p n.gap) t) (d ∷ []) [])) (sym front)
    (tree-steps (number_in names) t n.gap after p [] [] d (subst (Gap n.gap) n.reads.spells n.is_gap) n.reads.stands n.reads.means refl)

-- what comes next in a text is one datum at most
same-next : (names : Seq (Seq ℕ)) (text : Seq ℕ) (p : Place) (d e : Item) (after left : Seq ℕ)
    → (x : ReadsNext names text p d after) (y : ReadsNext names text p e left)
    → state after (behind (place_behind p x.gap) x.reads.tree) (d ∷ []) [] ≡ state left (behind (place_behind p y.gap) y.reads.tree) (e ∷ []) []
same-next names text p d e after left x y =
    let a = state after (behind (place_behind p x.gap) x.reads.tree) (d ∷ []) [] in
    let b = state left (behind (place_behind p y.gap) y.reads.tree) (e ∷ []) [] in
    ⊎_elim
    (λ on. same-whole (number_in names) a b on (omega arith) (omega arith) refl)
    (λ back. sym (same-whole (number_in names) b a back (omega arith) (omega arith) refl))
    (two-ways (number_in names) (state text p [] []) a b (datum-whole names text p d after x) (datum-whole names text p e left y))

next-front : (names : Seq (Seq ℕ)) (text : Seq ℕ) (p : Place) (d : Item) (after : Seq ℕ) → (x : ReadsNext names text p d after)
    → text ≡ (x.gap ++ x.bytes) ++ after
next-front names text p d after x = x.front ∙ sym (append_assoc x.gap x.bytes after)

pub one_datum : (names : Seq (Seq ℕ)) (text : Seq ℕ) (p : Place) (d e : Item) (after left : Seq ℕ)
    → (x : ReadsNext names text p d after) (y : ReadsNext names text p e left)
    → (d ≡ e) × (after ≡ left) × (place_behind (place_behind p x.gap) x.bytes ≡ place_behind (place_behind p y.gap) y.bytes)
one_datum names text p d e after left x y =
    let same = same-next names text p d e after left x y in
    let first : d ∷ [] ≡ e ∷ [] = ap (λ (s : LexemeState). s.done) same in
    let rest : after ≡ left = ap (λ (s : LexemeState). s.rest) same in
    let whole : (x.gap ++ x.bytes) ++ left ≡ (y.gap ++ y.bytes) ++ left =
    ap (λ r. (x.gap ++ x.bytes) ++ r) (sym rest) ∙ sym (next-front names text p d after x) ∙ next-front names text p e left y in (
      cc,
      rest,
      sym (place_behind-append p x.gap x.bytes) ∙ ap (place_behind p) (same-front (x.gap ++ x.bytes) (y.gap ++ y.bytes) left whole)
          ∙ place_behind-append p y.gap y.bytes,
    )

-- where only a gap is left, no datum comes
pub end_or_next : (names : Seq (Seq ℕ)) (text : Seq ℕ) (p : Place) (d : Item) (after : Seq ℕ) → Gap text [] → ReadsNext names text p d after → ⊥
end_or_next names text p d after g x =
    let number = number_in names in
    let s = state text p [] [] in
    let on = steps-on number s (state after (behind (place_behind p x.gap) x.reads.tree) (d ∷ []) []) s (finished []) (datum-whole names text p d after x) (none s)
    (last-step number text p [] g) in
    let grown = steps-grow number (state after (behind (place_behind p x.gap) x.reads.tree) (d ∷ []) []) s on in
    absurd (omega (arith, grown))

-- and no stop
pub end_or_stops : (text : Seq ℕ) (p : Place) (at : Place) (r : Reason) → Gap text [] → StopsFirst p text at r → ⊥
unfolding MeansAll spelled_all StandsAll
end_or_stops text p at r g x =
    reads_or_stops [] text p [] at r (record { trees = no_tree; gap = text; spells = refl; stands = tt; is_gap = g; means = refl }) x.stops
