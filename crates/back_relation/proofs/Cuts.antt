-- What a cut leaves: the blocks from a record on, the words there, and the bindings there.
use Rattle.std.proofs.Common.{◌≡◌, ℕ, zero, suc, ◌+◌, ◌≤◌, Bool, true, false, List, [], ◌∷◌, length, Some, None, refl, sym, ap, ◌∙◌, arith}
use Rattle.std.specs.Prelude.{slice_get, ◌==◌, ◌%◌, ◌/◌, ◌&&◌, ◌||◌, nat_le, if◌then◌else◌}
use Rattle.std.proofs.lemmas.Bool.Decides.{nat_tests}
use Rattle.std.proofs.lemmas.Bool.{le-leb}
use Rattle.mid_code.specs.Arena.{Arena, Block, is_open, is_record, begin_of, lent_from, words_of, blocks_from, is_within, is_in_record, word_in, word_at, with_blocks}
use Rattle.mid_code.specs.State.{MidState}
use Rattle.back_relation.specs.Worlds.{World, BoxPlace, on_heap, on_stack, gone, Later}
use Rattle.back_relation.specs.StackWords.{StackKept}
use Rattle.back_relation.specs.Cuts.{box_cut, boxes_cut, world_cut, LawOfCuts}

pub words_fewer : (n a : ℕ) (bs cs : List Block) → blocks_from n bs a ≡ Some cs → words_of cs ≤ words_of bs
words_fewer n a [] cs f = absurd (cc f)
words_fewer n a (b ∷ bs) cs f = by (is_open b.kind && (lent_from n (b ∷ bs) == a)) f (λ g. words_fewer n a bs cs g)
  where
    by : (t : Bool) → (if t then Some (b ∷ bs) else blocks_from n bs a) ≡ Some cs → (blocks_from n bs a ≡ Some cs → words_of cs ≤ words_of bs) → words_of cs ≤ b.words + words_of bs
    by true g inner = let all : b ∷ bs ≡ cs = cc g in let same : words_of (b ∷ bs) ≡ words_of cs = ap words_of all in omega (arith, same)
    by false g inner = omega (arith, inner g)

-- from where these blocks begin, the same words are lent
records_same : (n a x : ℕ) (bs cs : List Block) → blocks_from n bs a ≡ Some cs → begin_of n cs ≤ x → is_in_record n bs x ≡ is_in_record n cs x
records_same n a x [] cs f h = absurd (cc f)
records_same n a x (b ∷ bs) cs f h = by (is_open b.kind && (lent_from n (b ∷ bs) == a)) f (λ g. records_same n a x bs cs g h) (λ g. words_fewer n a bs cs g)
  where
    above : (k t r : Bool) → t ≡ false → ((k && t) || r) ≡ r
    above true t r e = ap (λ u. u || r) e
    above false t r e = refl

    by : (t : Bool) → (if t then Some (b ∷ bs) else blocks_from n bs a) ≡ Some cs → (blocks_from n bs a ≡ Some cs → is_in_record n bs x ≡ is_in_record n cs x)
        → (blocks_from n bs a ≡ Some cs → words_of cs ≤ words_of bs) → is_in_record n (b ∷ bs) x ≡ is_in_record n cs x
    by true g inner fewer = let all : b ∷ bs ≡ cs = cc g in ap (λ l. is_in_record n l x) all
    by false g inner fewer =
        let less = fewer g in
        let outside : begin_of n bs ≤ x = omega (arith, h, less) in
        let not_here : is_within (lent_from n (b ∷ bs)) (begin_of n bs) x ≡ false = grind (arith, nat_tests) in
        above (is_record b.kind) _ _ not_here ∙ inner g

pub words_cut : (a : Arena) (address x : ℕ) (cs : List Block) → blocks_from (length a.memory) a.blocks address ≡ Some cs → begin_of (length a.memory) cs ≤ x → word_at (with_blocks cs a) x ≡ word_at a x
words_cut a address x cs f h =
    ap (λ r. if (x % 4 == 0) && (is_within a.laid_from a.laid_to x || is_within a.heap_from a.heap_to x || r) then word_in (slice_get a.memory (x / 4)) else None)
    (sym (records_same (length a.memory) address x a.blocks cs f h))

found_cut : (from i : ℕ) (cs : List BoxPlace) (c : BoxPlace) → slice_get cs i ≡ Some c → slice_get (boxes_cut from cs) i ≡ Some (box_cut from c)
found_cut from i [] c e = absurd (cc e)
found_cut from zero (d ∷ cs) c e = let same : d ≡ c = cc e in ap (λ x. Some (box_cut from x)) same
found_cut from (suc i) (d ∷ cs) c e = found_cut from i cs c e

stands_cut : (from i a : ℕ) (cs : List BoxPlace) → slice_get (boxes_cut from cs) i ≡ Some (on_stack a) → slice_get cs i ≡ Some (on_stack a)
stands_cut from i a [] e = absurd (cc e)
stands_cut from zero a (on_heap b ∷ cs) e = absurd (cc e)
stands_cut from zero a (on_stack b ∷ cs) e = by (nat_le from b) e
  where
    by : (t : Bool) → Some (if t then on_stack b else gone) ≡ Some (on_stack a) → Some (on_stack b) ≡ Some (on_stack a)
    by true e = e
    by false e = absurd (cc e)
stands_cut from zero a (gone ∷ cs) e = absurd (cc e)
stands_cut from (suc i) a (c ∷ cs) e = stands_cut from i a cs e

pub later_cut : (from : ℕ) (w : World) → Later w (world_cut from w)
later_cut from w = record { spots = λ p s e. e; methods = λ i m e. e; exit_forms = λ x o e. e; boxes = λ i a e. found_cut from i w.boxes (on_heap a) e; none_new = λ i a e. stands_cut from i a w.boxes e }

-- **the stack behind a cut**
pub stack_cut : (w : World) (y : MidState) (address : ℕ) (cs : List Block) → blocks_from (length y.arena.memory) y.arena.blocks address ≡ Some cs
    → StackKept w (world_cut (begin_of (length y.arena.memory) cs) w) y (record y { arena = with_blocks cs y.arena })
stack_cut w y address cs f = record {
  words = λ x low high plain. words_cut y.arena address x cs f high;
  bindings = λ i a e low high.
      found_cut (begin_of (length y.arena.memory) cs) i w.boxes (on_stack a) e ∙ ap (λ t. Some (if t then on_stack a else gone)) (le-leb _ _ high);
}

pub cuts_law : LawOfCuts
cuts_law w y address blocks found = stack_cut w y address blocks found
