-- What a window hands out is right, whatever is still to be read: the law `right`. Assumes nothing.
use Rattle.std.specs.Prelude.{◌≡◌, Bool, ℕ, zero, suc, ◌+◌, ◌-◌, ◌≤◌, ◌<◌, length, take, drop}
use Rattle.std.proofs.Math.Path.{refl}
use Rattle.std.proofs.Common.{sym, ap, ap₂, ◌∙◌, arith, length-drop, take-take, drop-drop, length-take-le}
use Rattle.std.proofs.Math.Bool.{true, false}
use mathlib.Core.List.{List, [], ◌∷◌, ◌++◌, append-nil}
use Rattle.std.proofs.Math.Decide.{dec_lt, ℕ_discrete}
use borrow.Author.Tests.{lt-ltb, le-ltb, le-leb, lt-leb, eq-eqb, ne_eqb}
use Rattle.std.proofs.Math.Seq.{take-nil, drop-append-add}
use Rattle.std.proofs.lemmas.List.{drop-append-le}
use Rattle.lines.specs.Text.{newline}
use Rattle.lines.specs.Parts.{place_of, parted}
use Rattle.lines.specs.PartsLaws.{place_before, place_behind, parted_at, parted_through}
use Rattle.lines.specs.Words.{line_limit, lines_of, line_end}
use Rattle.input.specs.declared.Window.{Window}
use Rattle.input.specs.Cut.{part, unread, Fine, emptied_of, past_of, whole_of, part_of, cut_of, due, due_of, Right}

-- ---- parts of a buffer

drop_take : (k m : ℕ) (l : List ℕ) → drop k (take m l) ≡ take (m - k) (drop k l)
drop_take zero m l = let e : m - 0 ≡ m = omega arith in rw e
drop_take (suc k) zero l = let e : 0 - suc k ≡ 0 = omega arith in rw e
drop_take (suc k) (suc m) [] = sym (take-nil (suc m - suc k))
drop_take (suc k) (suc m) (x ∷ l) = let e : suc m - suc k ≡ m - k = omega arith in rw e (drop_take k m l)

module _ (b : List ℕ) (from to : ℕ) (fine : to ≤ length b) where
  pub part_length : length (part b from to) ≡ to - from
  part_length = length-take-le (to - from) (drop from b) (omega (arith, length-drop from b))

-- up to the place p of a part, and behind it
module _ (b : List ℕ) (from to p : ℕ) (inside : from + p < to) where
  part_front : part b from (from + p) ≡ take p (part b from to)
  part_front =
      let e : from + p - from ≡ p = omega arith in
      rw e (sym (take-take p (to - from) (drop from b) (omega arith)))

  part_back : part b (from + p + 1) to ≡ drop (suc p) (part b from to)
  part_back =
      let e : from + p + 1 ≡ from + suc p = omega arith in
      let f : to - (from + suc p) ≡ to - from - suc p = omega arith in
      rw (e, f) (sym (drop_take (suc p) (to - from) (drop from b) ∙ rw drop-drop))

part_empty : (b : List ℕ) (from to : ℕ) → from ≡ to → part b from to ≡ []
part_empty b from to k = let e : to - from ≡ 0 = omega arith in rw e

-- ---- what is due

through : (u later : List ℕ) → 0 < length u → length u ≤ place_of newline u
    → lines_of (u ++ later) ≡ (u ++ take (place_of newline later) later) ∷ lines_of (drop (suc (place_of newline later)) later)
unfolding lines_of
through [] later l h = absurd (omega arith)
through (x ∷ xs) later l h = parted_through newline later x xs h

module _ (u later : List ℕ) where
  -- a newline is there
  module _ (found : place_of newline u < length u) where
    due_line : due false (u ++ later) ≡ take (place_of newline u) u ∷ due false (drop (suc (place_of newline u)) u ++ later)
    unfolding lines_of
    due_line = parted_at newline [] later u found

    due_past : due true (u ++ later) ≡ due false (drop (suc (place_of newline u)) u ++ later)
    due_past =
        rw (place_before newline later u found, drop-append-le (suc (place_of newline u)) u later (omega arith))

  -- there is none
  module _ (none : length u ≤ place_of newline u) where
    due_rest : due true (u ++ later) ≡ due true later
    due_rest =
        let e : suc (length u + place_of newline later) ≡ length u + suc (place_of newline later) = omega arith in
        rw (place_behind newline later u none, e, drop-append-add u later (suc (place_of newline later)))

    due_through : 0 < length u → due false (u ++ later) ≡ (u ++ take (place_of newline later) later) ∷ due true later
    due_through some = through u later some none

-- ---- each step

over : {later : List ℕ} (t : Bool) → later ≡ [] → due t later ≡ []
unfolding lines_of parted
over true z = rw z
over false z = rw z

-- where the first newline of a window is, counted from its start
abbrev placed : List ℕ → Window → ℕ
placed b w = place_of newline (unread b w)

module _ (b : List ℕ) (w : Window) (fine : Fine b w) (later : List ℕ) where
  size : length (unread b w) ≡ w.to - w.from
  size = part_length b w.from w.to fine.within

  module _ (found : w.from + placed b w < w.to) where
    inside : placed b w < length (unread b w)
    inside = omega (arith, size)

    front : part b w.from (w.from + placed b w) ≡ take (placed b w) (unread b w)
    front = part_front b w.from w.to (placed b w) found

    front_length : length (part b w.from (w.from + placed b w)) ≡ w.from + placed b w - w.from
    front_length = part_length b w.from (w.from + placed b w) (omega (arith, fine.within))

    back : due false (drop (suc (placed b w)) (unread b w) ++ later) ≡ due_of b (past_of w (w.from + placed b w)) later
    back = ap (λ (x : List ℕ). due false (x ++ later)) (sym (part_back b w.from w.to (placed b w) found))

    line : due false (unread b w ++ later)
        ≡ part b w.from (w.from + placed b w) ∷ due_of b (past_of w (w.from + placed b w)) later
    line = rw front (due_line (unread b w) later inside ∙ ap (λ (ls : List (List ℕ)). take (placed b w) (unread b w) ∷ ls) back)

    whole_right : Right b w later (whole_of w (w.from + placed b w))
    unfolding whole_of
    whole_right = go w.passing refl (dec_lt line_limit (w.from + placed b w - w.from))
      where
        go : (t : Bool) → w.passing ≡ t → Dec (line_limit < w.from + placed b w - w.from)
            → Right b w later (whole_of w (w.from + placed b w))
        go true e d = rw e (due_past (unread b w) later inside ∙ back)
        go false e (yes l) =
            rw (e, lt-leb (w.from + placed b w - w.from) line_limit l) (([], rw append-nil line), omega (arith, front_length))
        go false e (no n) =
            rw (e, le-leb (w.from + placed b w - w.from) line_limit (omega (arith, n))) (line, omega (arith, front_length, n))

  module _ (none : w.to ≤ w.from + placed b w) where
    nowhere : length (unread b w) ≤ placed b w
    nowhere = omega (arith, size, fine.ordered)

    -- what is due once all is handed out or passed over
    emptied : (t : Bool) → due t later ≡ due_of b (emptied_of w t) later
    emptied t = ap (λ (x : List ℕ). due t (x ++ later)) (sym (part_empty b w.to w.to refl))

    passed : due true (unread b w ++ later) ≡ due true later
    passed = due_rest (unread b w) later nowhere

    through_right : w.from < w.to
        → due false (unread b w ++ later) ≡ (unread b w ++ take (place_of newline later) later) ∷ due_of b (emptied_of w true) later
    through_right some =
        due_through (unread b w) later nowhere (omega (arith, size))
        ∙ ap (λ (ls : List (List ℕ)). (unread b w ++ take (place_of newline later) later) ∷ ls) (emptied true)

    -- where nothing is left to be read, what is left is the last line
    final : later ≡ [] → w.from < w.to → due false (unread b w ++ later) ≡ unread b w ∷ due_of b (emptied_of w false) later
    final z some =
        due_through (unread b w) later nowhere (omega (arith, size))
        ∙ ap₂ ◌∷◌ (rw (z, take-nil, append-nil)) (over true z ∙ sym (over false z) ∙ emptied false)

    partial_right : (w.ended ≡ true → later ≡ []) → Right b w later (part_of w)
    unfolding part_of
    partial_right ended =
        go w.passing refl w.ended refl (dec_lt line_limit (w.to - w.from)) (ℕ_discrete w.from w.to)
      where
        go : (t : Bool) → w.passing ≡ t → (e : Bool) → w.ended ≡ e → Dec (line_limit < w.to - w.from) → Dec (w.from ≡ w.to)
            → Right b w later (part_of w)
        go true f true e d k = rw (f, e) (passed ∙ over true (ended e))
        go true f false e d k = rw (f, e) (passed ∙ emptied true)
        go false f t e (yes l) k =
            rw (f, lt-ltb line_limit (w.to - w.from) l)
            ((take (place_of newline later) later, through_right (omega arith)), omega (arith, size))
        go false f true e (no n) (yes k) =
            rw (f, e, le-ltb line_limit (w.to - w.from) (omega (arith, n)), eq-eqb w.from w.to k)
            (ap (λ (x : List ℕ). lines_of (x ++ later)) (part_empty b w.from w.to k) ∙ over false (ended e))
        go false f true e (no n) (no m) =
            let some : w.from < w.to = omega (arith, m, fine.ordered) in
            rw (f, e, le-ltb line_limit (w.to - w.from) (omega (arith, n)), ne_eqb w.from w.to m)
            (final (ended e) some, omega (arith, size, n))
        go false f false e (no n) k = rw (f, e, le-ltb line_limit (w.to - w.from) (omega (arith, n))) refl

  -- the step that the code takes
  pub right : (w.ended ≡ true → later ≡ []) → Right b w later (cut_of b w)
  unfolding cut_of line_end
  right ended = go (dec_lt (w.from + placed b w) w.to)
    where
      go : Dec (w.from + placed b w < w.to) → Right b w later (cut_of b w)
      go (yes l) = rw (lt-ltb (w.from + placed b w) w.to l) (whole_right l)
      go (no n) =
          let l : w.to ≤ w.from + placed b w = omega (arith, n) in
          rw (le-ltb (w.from + placed b w) w.to l) (partial_right l ended)
