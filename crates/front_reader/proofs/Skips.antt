-- The gap that a text begins with, by the grammar and by the bridge.
use Rattle.std.proofs.Common.{◌≡◌, ℕ, zero, suc, ◌+◌, ◌≤◌, Bool, true, false, ◌==◌, ◌||◌, ◌&&◌, List, [], ◌∷◌, ◌++◌, length, refl, sym, ap, subst, ◌∙◌, append_assoc, arith, if◌then◌else◌, ◌⊎◌, inl, inr, ⊎_elim, length-append}
use Rattle.std.proofs.lemmas.Bool.{eqb-true, and_parts}
use Rattle.front_reader.specs.declared.gap.Mode.TheVariants.{Between, InLine, InBlock, Opens, Closes}
use Rattle.front_reader.specs.declared.gap.Skipped.TheVariants.{Ends, OpenFrom}
use Rattle.front_reader.specs.Characters.{is_blank, begins}
use Rattle.front_reader.specs.Gaps.{is_mark, WithinComment, here, opening, closing, other, InLine as IsInLine, no_byte, byte, ends_line, Gap, no_gap, blank, line, block}
use Rattle.front_reader.specs.bridge.Lexemes.{skip, mode_after_close}

-- ---- choices

same_if : {A : Type 0} (b : Bool) {x x' y y' : A} → x ≡ x' → y ≡ y' → (if b then x else y) ≡ (if b then x' else y')
same_if true p q = p
same_if false p q = q

-- which way a choice went
pub chosen : {A : Type 0} (b : Bool) (x y z : A) → (if b then x else y) ≡ z → ((b ≡ true) × (x ≡ z)) ⊎ ((b ≡ false) × (y ≡ z))
chosen true x y z e = inl (refl, e)
chosen false x y z e = inr (refl, e)

-- ---- from the grammar to the bridge

mutual
  unfolding skip

  -- between two things, where a comment opened before is not looked at
  pub skip-from : (bs : List ℕ) (i o q : ℕ) → skip Between i o bs ≡ skip Between i q bs
  skip-from [] i o q = refl
  skip-from (b ∷ bs) i o q =
      same_if (is_blank b) (skip-from bs (i + 1) o q) (same_if (b == 59) (skip-line-from bs (i + 1) o q) refl)

  skip-line-from : (bs : List ℕ) (i o q : ℕ) → skip InLine i o bs ≡ skip InLine i q bs
  skip-line-from [] i o q = refl
  skip-line-from (b ∷ bs) i o q = same_if (b == 10) (skip-from bs (i + 1) o q) (skip-line-from bs (i + 1) o q)

-- a line feed is a blank
line_feed : (b : ℕ) → (b == 10) ≡ true → is_blank b ≡ true
unfolding is_blank
line_feed b e = let s : b ≡ 10 = eqb-true b 10 e in rw s refl

-- where a line ends, what follows is between two things
line_over : (rest : List ℕ) (i o : ℕ) → ends_line rest ≡ true → skip InLine i o rest ≡ skip Between i o rest
unfolding skip
line_over [] i o e = refl
line_over (b ∷ bs) i o e = rw (e, line_feed b e) refl

line_skipped : (bs rest : List ℕ) (i o : ℕ) → IsInLine bs → ends_line rest ≡ true → skip InLine i o (bs ++ rest) ≡ skip Between (i + length bs) o rest
unfolding skip
line_skipped _ rest i o no_byte e = line_over rest i o e ∙ ap (λ n. skip Between n o rest) (omega arith)
line_skipped _ rest i o (byte b bs f l) e =
    rw f (line_skipped bs rest (i + 1) o l e ∙ ap (λ n. skip Between n o rest) (omega arith))

-- what is in a block comment, where something is left of it
some_left : (n b : ℕ) (bs rest : List ℕ) → is_mark b bs ≡ false → WithinComment (suc n) bs 0 → is_mark b (bs ++ rest) ≡ false
some_left n b [] rest e w = elim w [ ]
some_left n b (c ∷ cs) rest e w = e

mark_parts : (x y : Bool) → (x || y) ≡ false → (x ≡ false) × (y ≡ false)
mark_parts true y e = absurd (cc)
mark_parts false y e = (refl, e)

-- a byte that is no mark of a comment
unmarked : (b n i o : ℕ) (bs : List ℕ) → is_mark b bs ≡ false → skip (InBlock n) i o (b ∷ bs) ≡ skip (InBlock n) (i + 1) o bs
unfolding skip
unmarked b n i o bs e =
    let h = mark_parts (b == 35 && begins (λ c. c == 124) bs) (b == 124 && begins (λ c. c == 35) bs) e in
    rw (h.0, h.1) refl

closed_skipped : (n : ℕ) (bs rest : List ℕ) (i o : ℕ) → WithinComment n bs 0 → skip (mode_after_close n) i o (bs ++ rest) ≡ skip Between (i + length bs) o rest
unfolding skip
closed_skipped _ _ rest i o (here n) = ap (λ k. skip Between k o rest) (omega arith)
closed_skipped _ _ rest i o (opening n _ bs w) =
    closed_skipped (suc (suc n)) bs rest (i + 1 + 1) o w ∙ ap (λ k. skip Between k o rest) (omega arith)
closed_skipped _ _ rest i o (closing n _ bs w) =
    closed_skipped n bs rest (i + 1 + 1) o w ∙ ap (λ k. skip Between k o rest) (omega arith)
closed_skipped _ _ rest i o (other n _ b bs e w) =
    unmarked b n i o (bs ++ rest) (some_left n b bs rest e w)
    ∙ closed_skipped (suc n) bs rest (i + 1) o w
    ∙ ap (λ k. skip Between k o rest) (omega arith)

-- and where a comment is still open at the end
open_skipped : (n m : ℕ) (bs : List ℕ) (i o : ℕ) → WithinComment n bs (suc m) → skip (mode_after_close n) i o bs ≡ OpenFrom o
unfolding skip
open_skipped _ m _ i o (here _) = refl
open_skipped _ m _ i o (opening n _ bs w) = open_skipped (suc (suc n)) m bs (i + 1 + 1) o w
open_skipped _ m _ i o (closing n _ bs w) = open_skipped n m bs (i + 1 + 1) o w
open_skipped _ m _ i o (other n _ b bs e w) = unmarked b n i o bs e ∙ open_skipped (suc n) m bs (i + 1) o w

-- a comment that the text does not close
pub open-skips : (m : ℕ) (bs : List ℕ) (i o : ℕ) → WithinComment 1 bs (suc m) → skip Between i o (35 ∷ 124 ∷ bs) ≡ OpenFrom i
unfolding skip is_blank
open-skips m bs i o w = open_skipped 1 m bs (i + 1 + 1) i w

-- a gap is skipped
pub skip-gap : (g after : List ℕ) (i o : ℕ) → Gap g after → (q : ℕ) × (skip Between i o (g ++ after) ≡ skip Between (i + length g) q after)
unfolding skip is_blank
skip-gap _ _ i o (no_gap after) = (o, ap (λ n. skip Between n o after) (omega arith))
skip-gap _ _ i o (blank b g after e h) =
    let r = skip-gap g after (i + 1) o h in
    let n : i + 1 + length g ≡ i + length (b ∷ g) = omega arith in
    (r.0, rw e (r.1 ∙ ap (λ k. skip Between k r.0 after) n))
skip-gap _ _ i o (line bs g after l e h) =
    let r = skip-gap g after (i + 1 + length bs) o h in
    let n : i + 1 + length bs + length g ≡ i + length (59 ∷ (bs ++ g)) = omega (arith, length-append bs g) in
    (r.0, ap (skip InLine (i + 1) o) (append_assoc bs g after) ∙ line_skipped bs (g ++ after) (i + 1) o l e ∙ r.1 ∙ ap (λ k. skip Between k r.0 after) n)
skip-gap _ _ i o (block bs g after w h) =
    let r = skip-gap g after (i + 1 + 1 + length bs) i h in
    let n : i + 1 + 1 + length bs + length g ≡ i + length (35 ∷ 124 ∷ (bs ++ g)) = omega (arith, length-append bs g) in
    (r.0, ap (skip (InBlock 0) (i + 1 + 1) i) (append_assoc bs g after) ∙ closed_skipped 1 bs (g ++ after) (i + 1 + 1) i w ∙ r.1 ∙ ap (λ k. skip Between k r.0 after) n)

-- ---- from the bridge to the grammar

-- what the first byte begins, if anything
begins_with : (c : ℕ) (bs : List ℕ) → begins (λ d. d == c) bs ≡ true → (cs : List ℕ) × (bs ≡ c ∷ cs)
begins_with c [] e = absurd (cc)
begins_with c (d ∷ bs) e = (bs, ap (λ x. x ∷ bs) (eqb-true d c e))

-- a gap of n - i bytes, and nothing of a gap behind it
record Skips (i : ℕ) (bs : List ℕ) (n : ℕ) : Type 0 where
  gap : List ℕ
  after : List ℕ
  front : bs ≡ gap ++ after
  count : n ≡ i + length gap
  is_gap : Gap gap after
  stops : skip Between 0 0 after ≡ Ends 0

-- the rest of a line, and then a gap
record SkipsLine (i : ℕ) (bs : List ℕ) (n : ℕ) : Type 0 where
  inside : List ℕ
  gap : List ℕ
  after : List ℕ
  front : bs ≡ inside ++ (gap ++ after)
  count : n ≡ i + (length inside + length gap)
  in_line : IsInLine inside
  ends : ends_line (gap ++ after) ≡ true
  is_gap : Gap gap after
  stops : skip Between 0 0 after ≡ Ends 0

-- the rest of block comments, so many inside one another, and then a gap
record SkipsBlock (d i : ℕ) (bs : List ℕ) (n : ℕ) : Type 0 where
  inside : List ℕ
  gap : List ℕ
  after : List ℕ
  front : bs ≡ inside ++ (gap ++ after)
  count : n ≡ i + (length inside + length gap)
  within : WithinComment d inside 0
  is_gap : Gap gap after
  stops : skip Between 0 0 after ≡ Ends 0

-- a gap with a byte more in front
skips_blank : (i b : ℕ) (bs : List ℕ) (n : ℕ) → is_blank b ≡ true → Skips (i + 1) bs n → Skips i (b ∷ bs) n
skips_blank i b bs n e s = record {
  gap = b ∷ s.gap;
  after = s.after;
  front = ap (λ x. b ∷ x) s.front;
  count = s.count ∙ omega arith;
  is_gap = blank b s.gap s.after e s.is_gap;
  stops = s.stops;
}

skips_line : (i : ℕ) (bs : List ℕ) (n : ℕ) → SkipsLine (i + 1) bs n → Skips i (59 ∷ bs) n
skips_line i bs n s = record {
  gap = 59 ∷ (s.inside ++ s.gap);
  after = s.after;
  front = ap (λ x. 59 ∷ x) (s.front ∙ sym (append_assoc s.inside s.gap s.after));
  count = s.count ∙ omega (arith, length-append s.inside s.gap);
  is_gap = line s.inside s.gap s.after s.in_line s.ends s.is_gap;
  stops = s.stops;
}

skips_block : (i : ℕ) (bs : List ℕ) (n : ℕ) → SkipsBlock 1 (i + 1 + 1) bs n → Skips i (35 ∷ 124 ∷ bs) n
skips_block i bs n s = record {
  gap = 35 ∷ 124 ∷ (s.inside ++ s.gap);
  after = s.after;
  front = ap (λ x. 35 ∷ 124 ∷ x) (s.front ∙ sym (append_assoc s.inside s.gap s.after));
  count = s.count ∙ omega (arith, length-append s.inside s.gap);
  is_gap = block s.inside s.gap s.after s.within s.is_gap;
  stops = s.stops;
}

-- no gap
skips_none : (i b : ℕ) (bs : List ℕ) (n : ℕ) → is_blank b ≡ false → (b == 59) ≡ false → (b == 35 && begins (λ c. c == 124) bs) ≡ false → Ends i ≡ Ends n → Skips i (b ∷ bs) n
unfolding skip
skips_none i b bs n x y z e = record {
  gap = [];
  after = b ∷ bs;
  front = refl;
  count = let same : i ≡ n = cc in omega (arith, same);
  is_gap = no_gap (b ∷ bs);
  stops = rw (x, y, z) refl;
}

-- a line that ends here, and one that goes on
line_ends : (i b : ℕ) (bs : List ℕ) (n : ℕ) → (b == 10) ≡ true → Skips i (b ∷ bs) n → SkipsLine i (b ∷ bs) n
line_ends i b bs n e s = record {
  inside = [];
  gap = s.gap;
  after = s.after;
  front = s.front;
  count = omega (arith, s.count);
  in_line = no_byte;
  ends = subst (λ x. ends_line x ≡ true) s.front e;
  is_gap = s.is_gap;
  stops = s.stops;
}

line_more : (i b : ℕ) (bs : List ℕ) (n : ℕ) → (b == 10) ≡ false → SkipsLine (i + 1) bs n → SkipsLine i (b ∷ bs) n
line_more i b bs n e s = record {
  inside = b ∷ s.inside;
  gap = s.gap;
  after = s.after;
  front = ap (λ x. b ∷ x) s.front;
  count = s.count ∙ omega arith;
  in_line = byte b s.inside e s.in_line;
  ends = s.ends;
  is_gap = s.is_gap;
  stops = s.stops;
}

block_opens : (d i : ℕ) (bs : List ℕ) (n : ℕ) → SkipsBlock (suc (suc d)) (i + 1 + 1) bs n → SkipsBlock (suc d) i (35 ∷ 124 ∷ bs) n
block_opens d i bs n s = record {
  inside = 35 ∷ 124 ∷ s.inside;
  gap = s.gap;
  after = s.after;
  front = ap (λ x. 35 ∷ 124 ∷ x) s.front;
  count = s.count ∙ omega arith;
  within = opening d 0 s.inside s.within;
  is_gap = s.is_gap;
  stops = s.stops;
}

block_closes : (d i : ℕ) (bs : List ℕ) (n : ℕ) → SkipsBlock d (i + 1 + 1) bs n → SkipsBlock (suc d) i (124 ∷ 35 ∷ bs) n
block_closes d i bs n s = record {
  inside = 124 ∷ 35 ∷ s.inside;
  gap = s.gap;
  after = s.after;
  front = ap (λ x. 124 ∷ 35 ∷ x) s.front;
  count = s.count ∙ omega arith;
  within = closing d 0 s.inside s.within;
  is_gap = s.is_gap;
  stops = s.stops;
}

block_over : (i : ℕ) (bs : List ℕ) (n : ℕ) → Skips i bs n → SkipsBlock 0 i bs n
block_over i bs n s = record {
  inside = [];
  gap = s.gap;
  after = s.after;
  front = s.front;
  count = omega (arith, s.count);
  within = here 0;
  is_gap = s.is_gap;
  stops = s.stops;
}

-- a byte more of what is in the comment; it is no mark, since more of the comment follows
shorter_mark : (d b : ℕ) (bs inside more : List ℕ) → bs ≡ inside ++ more → WithinComment (suc d) inside 0 → is_mark b bs ≡ false → is_mark b inside ≡ false
shorter_mark d b bs [] more f w e = elim w [ ]
shorter_mark d b [] (c ∷ cs) more f w e = absurd (cc)
shorter_mark d b (x ∷ xs) (c ∷ cs) more f w e = let same : x ≡ c = cc in rw same at e

neither : (x y : Bool) → x ≡ false → y ≡ false → (x || y) ≡ false
neither false y p q = q
neither true y p q = absurd (cc)

block_more : (d i b : ℕ) (bs : List ℕ) (n : ℕ) → is_mark b bs ≡ false → SkipsBlock (suc d) (i + 1) bs n → SkipsBlock (suc d) i (b ∷ bs) n
block_more d i b bs n e s = record {
  inside = b ∷ s.inside;
  gap = s.gap;
  after = s.after;
  front = ap (λ x. b ∷ x) s.front;
  count = s.count ∙ omega arith;
  within = other d 0 b s.inside (shorter_mark d b bs s.inside (s.gap ++ s.after) s.front s.within e) s.within;
  is_gap = s.is_gap;
  stops = s.stops;
}

mutual
  unfolding skip

  skips : (bs : List ℕ) (i o n : ℕ) → skip Between i o bs ≡ Ends n → Skips i bs n
  skips [] i o n e = record { gap = []; after = []; front = refl; count = let same : i ≡ n = cc in omega (arith, same); is_gap = no_gap []; stops = refl }
  skips (b ∷ bs) i o n e =
      ⊎_elim
      (λ h. skips_blank i b bs n h.0 (skips bs (i + 1) o n h.1))
      (λ h.
      ⊎_elim
      (λ k. let same : b ≡ 59 = eqb-true b 59 k.0 in rw same (skips_line i bs n (in_line bs (i + 1) o n k.1)))
      (λ k.
      ⊎_elim
      (λ l. sharp i o b bs n l.0 l.1)
      (λ l. skips_none i b bs n h.0 k.0 l.0 l.1)
      (chosen (b == 35 && begins (λ c. c == 124) bs) (skip (Opens 0) (i + 1) i bs) (Ends i) (Ends n) k.1))
      (chosen (b == 59) (skip InLine (i + 1) o bs) _ (Ends n) h.1))
      (chosen (is_blank b) (skip Between (i + 1) o bs) _ (Ends n) e)

  sharp : (i o b : ℕ) (bs : List ℕ) (n : ℕ) → (b == 35 && begins (λ c. c == 124) bs) ≡ true → skip (Opens 0) (i + 1) i bs ≡ Ends n → Skips i (b ∷ bs) n
  sharp i o b [] n e h = absurd (cc)
  sharp i o b (c ∷ cs) n e h =
      let p = and_parts (b == 35) (c == 124) e in
      let x : b ≡ 35 = eqb-true b 35 p.0 in
      let y : c ≡ 124 = eqb-true c 124 p.1 in
      rw (x, y) (skips_block i cs n (in_block 0 cs (i + 1 + 1) i n h))

  in_line : (bs : List ℕ) (i o n : ℕ) → skip InLine i o bs ≡ Ends n → SkipsLine i bs n
  in_line [] i o n e = record { inside = []; gap = []; after = []; front = refl; count = let same : i ≡ n = cc in omega (arith, same); in_line = no_byte; ends = refl; is_gap = no_gap []; stops = refl }
  in_line (b ∷ bs) i o n e =
      ⊎_elim
      (λ h. line_ends i b bs n h.0 (skips_blank i b bs n (line_feed b h.0) (skips bs (i + 1) o n h.1)))
      (λ h. line_more i b bs n h.0 (in_line bs (i + 1) o n h.1))
      (chosen (b == 10) (skip Between (i + 1) o bs) (skip InLine (i + 1) o bs) (Ends n) e)

  in_block : (d : ℕ) (bs : List ℕ) (i o n : ℕ) → skip (InBlock d) i o bs ≡ Ends n → SkipsBlock (suc d) i bs n
  in_block d [] i o n e = absurd (cc)
  in_block d (b ∷ bs) i o n e =
      ⊎_elim
      (λ h. opens d i o b bs n h.0 h.1)
      (λ h.
      ⊎_elim
      (λ k. closes d i o b bs n k.0 k.1)
      (λ k. block_more d i b bs n (neither _ _ h.0 k.0) (in_block d bs (i + 1) o n k.1))
      (chosen (b == 124 && begins (λ c. c == 35) bs) (skip (Closes d) (i + 1) o bs) (skip (InBlock d) (i + 1) o bs) (Ends n) h.1))
      (chosen (b == 35 && begins (λ c. c == 124) bs) (skip (Opens (suc d)) (i + 1) o bs) _ (Ends n) e)

  opens : (d i o b : ℕ) (bs : List ℕ) (n : ℕ) → (b == 35 && begins (λ c. c == 124) bs) ≡ true → skip (Opens (suc d)) (i + 1) o bs ≡ Ends n → SkipsBlock (suc d) i (b ∷ bs) n
  opens d i o b [] n e h = absurd (cc)
  opens d i o b (c ∷ cs) n e h =
      let p = and_parts (b == 35) (c == 124) e in
      let x : b ≡ 35 = eqb-true b 35 p.0 in
      let y : c ≡ 124 = eqb-true c 124 p.1 in
      rw (x, y) (block_opens d i cs n (in_block (suc d) cs (i + 1 + 1) o n h))

  closes : (d i o b : ℕ) (bs : List ℕ) (n : ℕ) → (b == 124 && begins (λ c. c == 35) bs) ≡ true → skip (Closes d) (i + 1) o bs ≡ Ends n → SkipsBlock (suc d) i (b ∷ bs) n
  closes d i o b [] n e h = absurd (cc)
  closes zero i o b (c ∷ cs) n e h =
      let p = and_parts (b == 124) (c == 35) e in
      let x : b ≡ 124 = eqb-true b 124 p.0 in
      let y : c ≡ 35 = eqb-true c 35 p.1 in
      rw (x, y) (block_closes 0 i cs n (block_over (i + 1 + 1) cs n (skips cs (i + 1 + 1) o n h)))
  closes (suc d) i o b (c ∷ cs) n e h =
      let p = and_parts (b == 124) (c == 35) e in
      let x : b ≡ 124 = eqb-true b 124 p.0 in
      let y : c ≡ 35 = eqb-true c 35 p.1 in
      rw (x, y) (block_closes (suc d) i cs n (in_block d cs (i + 1 + 1) o n h))

pub record GapEnds (bs : List ℕ) (n : ℕ) : Type 0 where
  pub gap : List ℕ
  pub after : List ℕ
  pub front : bs ≡ gap ++ after
  pub count : n ≡ length gap
  pub is_gap : Gap gap after
  pub stops : skip Between 0 0 after ≡ Ends 0

-- what is skipped is a gap, and no more of one follows
pub skip-ends : (bs : List ℕ) (n : ℕ) → skip Between 0 0 bs ≡ Ends n → GapEnds bs n
skip-ends bs n e =
    let s = skips bs 0 0 n e in
    record { gap = s.gap; after = s.after; front = s.front; count = omega (arith, s.count); is_gap = s.is_gap; stops = s.stops }

-- a gap, and a comment that the text does not close
record Opened (i : ℕ) (bs : List ℕ) (n : ℕ) : Type 0 where
  gap : List ℕ
  inner : List ℕ
  depth : ℕ
  front : bs ≡ gap ++ 35 ∷ 124 ∷ inner
  count : n ≡ i + length gap
  is_gap : Gap gap (35 ∷ 124 ∷ inner)
  within : WithinComment 1 inner (suc depth)

record OpenedInLine (i : ℕ) (bs : List ℕ) (n : ℕ) : Type 0 where
  inside : List ℕ
  gap : List ℕ
  inner : List ℕ
  depth : ℕ
  front : bs ≡ inside ++ (gap ++ 35 ∷ 124 ∷ inner)
  count : n ≡ i + (length inside + length gap)
  in_line : IsInLine inside
  ends : ends_line (gap ++ 35 ∷ 124 ∷ inner) ≡ true
  is_gap : Gap gap (35 ∷ 124 ∷ inner)
  within : WithinComment 1 inner (suc depth)

-- a comment opened at o is not closed, or it is, and one behind it is not
data OpenedInBlock (d i o : ℕ) (bs : List ℕ) (n : ℕ) : Type 0 where
  stays_open : (depth : ℕ) → n ≡ o → WithinComment d bs (suc depth) → OpenedInBlock d i o bs n
  later_open : (inside gap inner : List ℕ) (depth : ℕ) → bs ≡ inside ++ (gap ++ 35 ∷ 124 ∷ inner)
      → n ≡ i + (length inside + length gap) → WithinComment d inside 0 → Gap gap (35 ∷ 124 ∷ inner) → WithinComment 1 inner (suc depth)
      → OpenedInBlock d i o bs n

opened_blank : (i b : ℕ) (bs : List ℕ) (n : ℕ) → is_blank b ≡ true → Opened (i + 1) bs n → Opened i (b ∷ bs) n
opened_blank i b bs n e s = record {
  gap = b ∷ s.gap;
  inner = s.inner;
  depth = s.depth;
  front = ap (λ x. b ∷ x) s.front;
  count = s.count ∙ omega arith;
  is_gap = blank b s.gap (35 ∷ 124 ∷ s.inner) e s.is_gap;
  within = s.within;
}

opened_line : (i : ℕ) (bs : List ℕ) (n : ℕ) → OpenedInLine (i + 1) bs n → Opened i (59 ∷ bs) n
opened_line i bs n s = record {
  gap = 59 ∷ (s.inside ++ s.gap);
  inner = s.inner;
  depth = s.depth;
  front = ap (λ x. 59 ∷ x) (s.front ∙ sym (append_assoc s.inside s.gap (35 ∷ 124 ∷ s.inner)));
  count = s.count ∙ omega (arith, length-append s.inside s.gap);
  is_gap = line s.inside s.gap (35 ∷ 124 ∷ s.inner) s.in_line s.ends s.is_gap;
  within = s.within;
}

opened_block : (i : ℕ) (bs : List ℕ) (n : ℕ) → OpenedInBlock 1 (i + 1 + 1) i bs n → Opened i (35 ∷ 124 ∷ bs) n
opened_block i bs n (stays_open depth e w) = record {
  gap = [];
  inner = bs;
  depth = depth;
  front = refl;
  count = omega (arith, e);
  is_gap = no_gap (35 ∷ 124 ∷ bs);
  within = w;
}
opened_block i bs n (later_open inside gap inner depth f c w g v) = record {
  gap = 35 ∷ 124 ∷ (inside ++ gap);
  inner = inner;
  depth = depth;
  front = ap (λ x. 35 ∷ 124 ∷ x) (f ∙ sym (append_assoc inside gap (35 ∷ 124 ∷ inner)));
  count = omega (arith, c, length-append inside gap);
  is_gap = block inside gap (35 ∷ 124 ∷ inner) w g;
  within = v;
}

opened_line_ends : (i b : ℕ) (bs : List ℕ) (n : ℕ) → (b == 10) ≡ true → Opened i (b ∷ bs) n → OpenedInLine i (b ∷ bs) n
opened_line_ends i b bs n e s = record {
  inside = [];
  gap = s.gap;
  inner = s.inner;
  depth = s.depth;
  front = s.front;
  count = omega (arith, s.count);
  in_line = no_byte;
  ends = subst (λ x. ends_line x ≡ true) s.front e;
  is_gap = s.is_gap;
  within = s.within;
}

opened_line_more : (i b : ℕ) (bs : List ℕ) (n : ℕ) → (b == 10) ≡ false → OpenedInLine (i + 1) bs n → OpenedInLine i (b ∷ bs) n
opened_line_more i b bs n e s = record {
  inside = b ∷ s.inside;
  gap = s.gap;
  inner = s.inner;
  depth = s.depth;
  front = ap (λ x. b ∷ x) s.front;
  count = s.count ∙ omega arith;
  in_line = byte b s.inside e s.in_line;
  ends = s.ends;
  is_gap = s.is_gap;
  within = s.within;
}

opened_deeper : (d i o : ℕ) (bs : List ℕ) (n : ℕ) → OpenedInBlock (suc (suc d)) (i + 1 + 1) o bs n → OpenedInBlock (suc d) i o (35 ∷ 124 ∷ bs) n
opened_deeper d i o bs n (stays_open depth e w) = stays_open depth e (opening d (suc depth) bs w)
opened_deeper d i o bs n (later_open inside gap inner depth f c w g v) =
    later_open (35 ∷ 124 ∷ inside) gap inner depth (ap (λ x. 35 ∷ 124 ∷ x) f) (omega (arith, c)) (opening d 0 inside w) g v

opened_closer : (d i o : ℕ) (bs : List ℕ) (n : ℕ) → OpenedInBlock d (i + 1 + 1) o bs n → OpenedInBlock (suc d) i o (124 ∷ 35 ∷ bs) n
opened_closer d i o bs n (stays_open depth e w) = stays_open depth e (closing d (suc depth) bs w)
opened_closer d i o bs n (later_open inside gap inner depth f c w g v) =
    later_open (124 ∷ 35 ∷ inside) gap inner depth (ap (λ x. 124 ∷ 35 ∷ x) f) (omega (arith, c)) (closing d 0 inside w) g v

opened_more : (d i o b : ℕ) (bs : List ℕ) (n : ℕ) → is_mark b bs ≡ false → OpenedInBlock (suc d) (i + 1) o bs n → OpenedInBlock (suc d) i o (b ∷ bs) n
opened_more d i o b bs n e (stays_open depth h w) = stays_open depth h (other d (suc depth) b bs e w)
opened_more d i o b bs n e (later_open inside gap inner depth f c w g v) =
    later_open (b ∷ inside) gap inner depth (ap (λ x. b ∷ x) f) (omega (arith, c))
    (other d 0 b inside (shorter_mark d b bs inside (gap ++ 35 ∷ 124 ∷ inner) f w e) w) g v

opened_behind : (i o : ℕ) (bs : List ℕ) (n : ℕ) → Opened i bs n → OpenedInBlock 0 i o bs n
opened_behind i o bs n s = later_open [] s.gap s.inner s.depth s.front (omega (arith, s.count)) (here 0) s.is_gap s.within

mutual
  unfolding skip

  opened : (bs : List ℕ) (i o n : ℕ) → skip Between i o bs ≡ OpenFrom n → Opened i bs n
  opened [] i o n e = absurd (cc)
  opened (b ∷ bs) i o n e =
      ⊎_elim
      (λ h. opened_blank i b bs n h.0 (opened bs (i + 1) o n h.1))
      (λ h.
      ⊎_elim
      (λ k. let same : b ≡ 59 = eqb-true b 59 k.0 in rw same (opened_line i bs n (opened_in_line bs (i + 1) o n k.1)))
      (λ k.
      ⊎_elim
      (λ l. opened_sharp i o b bs n l.0 l.1)
      (λ l. absurd (cc))
      (chosen (b == 35 && begins (λ c. c == 124) bs) (skip (Opens 0) (i + 1) i bs) (Ends i) (OpenFrom n) k.1))
      (chosen (b == 59) (skip InLine (i + 1) o bs) _ (OpenFrom n) h.1))
      (chosen (is_blank b) (skip Between (i + 1) o bs) _ (OpenFrom n) e)

  opened_sharp : (i o b : ℕ) (bs : List ℕ) (n : ℕ) → (b == 35 && begins (λ c. c == 124) bs) ≡ true → skip (Opens 0) (i + 1) i bs ≡ OpenFrom n → Opened i (b ∷ bs) n
  opened_sharp i o b [] n e h = let q : false ≡ true = (and_parts (b == 35) false e).1 in absurd (cc)
  opened_sharp i o b (c ∷ cs) n e h =
      let p = and_parts (b == 35) (c == 124) e in
      let x : b ≡ 35 = eqb-true b 35 p.0 in
      let y : c ≡ 124 = eqb-true c 124 p.1 in
      rw (x, y) (opened_block i cs n (opened_in_block 0 cs (i + 1 + 1) i n h))

  opened_in_line : (bs : List ℕ) (i o n : ℕ) → skip InLine i o bs ≡ OpenFrom n → OpenedInLine i bs n
  opened_in_line [] i o n e = absurd (cc)
  opened_in_line (b ∷ bs) i o n e =
      ⊎_elim
      (λ h. opened_line_ends i b bs n h.0 (opened_blank i b bs n (line_feed b h.0) (opened bs (i + 1) o n h.1)))
      (λ h. opened_line_more i b bs n h.0 (opened_in_line bs (i + 1) o n h.1))
      (chosen (b == 10) (skip Between (i + 1) o bs) (skip InLine (i + 1) o bs) (OpenFrom n) e)

  opened_in_block : (d : ℕ) (bs : List ℕ) (i o n : ℕ) → skip (InBlock d) i o bs ≡ OpenFrom n → OpenedInBlock (suc d) i o bs n
  opened_in_block d [] i o n e = let same : o ≡ n = cc in stays_open d (sym same) (here (suc d))
  opened_in_block d (b ∷ bs) i o n e =
      ⊎_elim
      (λ h. opened_opens d i o b bs n h.0 h.1)
      (λ h.
      ⊎_elim
      (λ k. opened_closes d i o b bs n k.0 k.1)
      (λ k. opened_more d i o b bs n (neither _ _ h.0 k.0) (opened_in_block d bs (i + 1) o n k.1))
      (chosen (b == 124 && begins (λ c. c == 35) bs) (skip (Closes d) (i + 1) o bs) (skip (InBlock d) (i + 1) o bs) (OpenFrom n) h.1))
      (chosen (b == 35 && begins (λ c. c == 124) bs) (skip (Opens (suc d)) (i + 1) o bs) _ (OpenFrom n) e)

  opened_opens : (d i o b : ℕ) (bs : List ℕ) (n : ℕ) → (b == 35 && begins (λ c. c == 124) bs) ≡ true → skip (Opens (suc d)) (i + 1) o bs ≡ OpenFrom n → OpenedInBlock (suc d) i o (b ∷ bs) n
  opened_opens d i o b [] n e h = let q : false ≡ true = (and_parts (b == 35) false e).1 in absurd (cc)
  opened_opens d i o b (c ∷ cs) n e h =
      let p = and_parts (b == 35) (c == 124) e in
      let x : b ≡ 35 = eqb-true b 35 p.0 in
      let y : c ≡ 124 = eqb-true c 124 p.1 in
      rw (x, y) (opened_deeper d i o cs n (opened_in_block (suc d) cs (i + 1 + 1) o n h))

  opened_closes : (d i o b : ℕ) (bs : List ℕ) (n : ℕ) → (b == 124 && begins (λ c. c == 35) bs) ≡ true → skip (Closes d) (i + 1) o bs ≡ OpenFrom n → OpenedInBlock (suc d) i o (b ∷ bs) n
  opened_closes d i o b [] n e h = let q : false ≡ true = (and_parts (b == 124) false e).1 in absurd (cc)
  opened_closes zero i o b (c ∷ cs) n e h =
      let p = and_parts (b == 124) (c == 35) e in
      let x : b ≡ 124 = eqb-true b 124 p.0 in
      let y : c ≡ 35 = eqb-true c 35 p.1 in
      rw (x, y) (opened_closer 0 i o cs n (opened_behind (i + 1 + 1) o cs n (opened cs (i + 1 + 1) o n h)))
  opened_closes (suc d) i o b (c ∷ cs) n e h =
      let p = and_parts (b == 124) (c == 35) e in
      let x : b ≡ 124 = eqb-true b 124 p.0 in
      let y : c ≡ 35 = eqb-true c 35 p.1 in
      rw (x, y) (opened_closer (suc d) i o cs n (opened_in_block d cs (i + 1 + 1) o n h))

pub record GapOpen (bs : List ℕ) (n : ℕ) : Type 0 where
  pub gap : List ℕ
  pub inner : List ℕ
  pub depth : ℕ
  pub front : bs ≡ gap ++ 35 ∷ 124 ∷ inner
  pub count : n ≡ length gap
  pub is_gap : Gap gap (35 ∷ 124 ∷ inner)
  pub within : WithinComment 1 inner (suc depth)

-- where a comment stays open, it is behind a gap
pub skip-open : (bs : List ℕ) (n : ℕ) → skip Between 0 0 bs ≡ OpenFrom n → GapOpen bs n
skip-open bs n e =
    let s = opened bs 0 0 n e in
    record { gap = s.gap; inner = s.inner; depth = s.depth; front = s.front; count = omega (arith, s.count); is_gap = s.is_gap; within = s.within }

-- a gap ends no earlier than it is looked at
skip-after : (bs : List ℕ) (i o n : ℕ) → skip Between i o bs ≡ Ends n → i ≤ n
skip-after bs i o n e = omega (arith, (skips bs i o n e).count)

skip-line-after : (bs : List ℕ) (i o n : ℕ) → skip InLine i o bs ≡ Ends n → i ≤ n
skip-line-after bs i o n e = omega (arith, (in_line bs i o n e).count)

skip-block-after : (d : ℕ) (bs : List ℕ) (i o n : ℕ) → skip (InBlock d) i o bs ≡ Ends n → i ≤ n
skip-block-after d bs i o n e = omega (arith, (in_block d bs i o n e).count)

-- what a text does not begin with that begins with no gap
pub record NoGap (b : ℕ) (bs : List ℕ) : Type 0 where
  pub no_blank : is_blank b ≡ false
  pub no_line : (b == 59) ≡ false
  pub no_block : b ≡ 35 → begins (λ c. c == 124) bs ≡ false

pub no-gap : (b : ℕ) (bs : List ℕ) → skip Between 0 0 (b ∷ bs) ≡ Ends 0 → NoGap b bs
unfolding skip
no-gap b bs e =
    ⊎_elim
    (λ h. absurd (omega (arith, skip-after bs (0 + 1) 0 0 h.1)))
    (λ h.
    ⊎_elim
    (λ k. absurd (omega (arith, skip-line-after bs (0 + 1) 0 0 k.1)))
    (λ k.
    ⊎_elim
    (λ l. absurd (opens_none bs l.0 l.1))
    (λ l. record { no_blank = h.0; no_line = k.0; no_block = λ same. first_of_mark b bs same l.0 })
    (chosen (b == 35 && begins (λ c. c == 124) bs) (skip (Opens 0) (0 + 1) 0 bs) (Ends 0) (Ends 0) k.1))
    (chosen (b == 59) (skip InLine (0 + 1) 0 bs) _ (Ends 0) h.1))
    (chosen (is_blank b) (skip Between (0 + 1) 0 bs) _ (Ends 0) e)
  where
    opens_none : (bs : List ℕ) → (b == 35 && begins (λ c. c == 124) bs) ≡ true → skip (Opens 0) (0 + 1) 0 bs ≡ Ends 0 → ⊥
    opens_none [] h k = let q : false ≡ true = (and_parts (b == 35) false h).1 in cc
    opens_none (c ∷ cs) h k = omega (arith, skip-block-after 0 cs (0 + 1 + 1) 0 0 k)

    first_of_mark : (b : ℕ) (bs : List ℕ) → b ≡ 35 → (b == 35 && begins (λ c. c == 124) bs) ≡ false → begins (λ c. c == 124) bs ≡ false
    first_of_mark b bs same h = rw same at h
