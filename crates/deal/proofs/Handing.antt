-- The parts of the others of a level, handed out turn by turn.
use Rattle.std.proofs.Common.{◌≡◌, ℕ, zero, suc, ◌+◌, ◌<◌, ◌≢◌, true, false, cond, ◌&&◌, ltb, List, [], ◌∷◌, length, get_or, take, set, ℤ, Some, sym, refl, ap, ◌∙◌, ⊎_elim, arith, get_or-set_same, get_or-set_other}
use Rattle.std.specs.List.{slice_get}
use Rattle.std.proofs.lemmas.Option.{slice_get_past}
use Rattle.std.proofs.lemmas.List.{length-map}
use Rattle.std.proofs.lemmas.Bool.{cond-true, cond-false, and_from, and_left, cases_Bool, cases_eq, cases_lt}
use Rattle.filling.specs.declared.interest.Interest.{Interest}
use Rattle.filling.specs.Totals.{other_at, sizes}
use Rattle.filling.proofs.Places.{place_here}
use Rattle.deal.specs.declared.turns.Turn.{Turn}
use Rattle.deal.specs.Levels.{turns_from}
use Rattle.deal.proofs.Turning.{turn, turn_sizes}

module _ (v : ℤ) where
  -- how many others of the level stand before a place
  abbrev pub before : List Interest → ℕ → ℕ
  before ls i = length (sizes (other_at v) (take i ls))

  before_cons : (l : Interest) (ls : List Interest) (i : ℕ) → before (l ∷ ls) (suc i) ≡ cond (other_at v l) 1 0 + before ls i
  before_cons l ls i =
      let later = sizes (other_at v) (take i ls) in
      elim (other_at v l) as (λ b. length (cond b (l.size ∷ later) later) ≡ cond b 1 0 + length later) [ true ↦ omega arith | false ↦ omega arith ]

  before_less : (ls : List Interest) (i j : ℕ) (l : Interest) → slice_get ls i ≡ Some l → other_at v l ≡ true → i < j → before ls i < before ls j
  before_less [] i j l e t h = cc
  before_less (x ∷ ls) i zero l e t h = absurd (omega arith)
  before_less (x ∷ ls) zero (suc j) l e t h =
      let s : x ≡ l = cc in
      omega (arith, before_cons x ls j, cond-true {A = ℕ} (other_at v x) 1 0 (ap (other_at v) s ∙ t))
  before_less (x ∷ ls) (suc i) (suc j) l e t h = omega (arith, before_cons x ls i, before_cons x ls j, before_less ls i j l e t (omega arith))

  -- where the turn at the place k among the turns stands
  abbrev Stands : List Interest → ℕ → ℕ → Turn → Type 0
  Stands ls n k t = (i : ℕ) × (l : Interest) × (t.place ≡ n + i) × (slice_get ls i ≡ Some l) × (other_at v l ≡ true) × (before ls i ≡ k)

  module _ (x : Interest) (ls : List Interest) (n : ℕ) (t : Turn) where
    after_yes : (k : ℕ) → other_at v x ≡ true → Stands ls (n + 1) k t → Stands (x ∷ ls) n (suc k) t
    after_yes k pass w = (suc w.0, w.1, omega (arith, w.2), w.3, w.4, omega (arith, w.5, before_cons x ls w.0, cond-true {A = ℕ} (other_at v x) 1 0 pass))

    after_no : (k : ℕ) → other_at v x ≡ false → Stands ls (n + 1) k t → Stands (x ∷ ls) n k t
    after_no k fail w = (suc w.0, w.1, omega (arith, w.2), w.3, w.4, omega (arith, w.5, before_cons x ls w.0, cond-false {A = ℕ} (other_at v x) 1 0 fail))

    at_yes : (k : ℕ) → other_at v x ≡ true → slice_get (turns_from v n (x ∷ ls)) k ≡ Some t → slice_get (turn n x ∷ turns_from v (n + 1) ls) k ≡ Some t
    at_yes k pass e = ap (λ zs. slice_get zs k) (sym (cond-true (other_at v x) (turn n x ∷ turns_from v (n + 1) ls) (turns_from v (n + 1) ls) pass)) ∙ e

    at_no : (k : ℕ) → other_at v x ≡ false → slice_get (turns_from v n (x ∷ ls)) k ≡ Some t → slice_get (turns_from v (n + 1) ls) k ≡ Some t
    at_no k fail e = ap (λ zs. slice_get zs k) (sym (cond-false (other_at v x) (turn n x ∷ turns_from v (n + 1) ls) (turns_from v (n + 1) ls) fail)) ∙ e

    here : other_at v x ≡ true → turn n x ≡ t → Stands (x ∷ ls) n 0 t
    here pass s = (0, x, omega (arith, ap (λ (u : Turn). u.place) s), refl, pass, refl)

  turn_stands : (ls : List Interest) (n k : ℕ) (t : Turn) → slice_get (turns_from v n ls) k ≡ Some t → Stands ls n k t
  turn_stands [] n k t e = cc
  turn_stands (x ∷ ls) n zero t e =
      ⊎_elim
      (λ pass. let q = at_yes x ls n t 0 pass e in here x ls n t pass (let s : turn n x ≡ t = cc in s))
      (λ fail. after_no x ls n t 0 fail (turn_stands ls (n + 1) 0 t (at_no x ls n t 0 fail e)))
      (cases_Bool (other_at v x))
  turn_stands (x ∷ ls) n (suc k) t e =
      ⊎_elim
      (λ pass. after_yes x ls n t k pass (turn_stands ls (n + 1) k t (at_yes x ls n t (suc k) pass e)))
      (λ fail. after_no x ls n t (suc k) fail (turn_stands ls (n + 1) (suc k) t (at_no x ls n t (suc k) fail e)))
      (cases_Bool (other_at v x))

  module _ (ls : List Interest) (parts old : List ℕ) where
    -- the first k turns have their parts, and the other lines what they had
    abbrev pub Handed : ℕ → List ℕ → Type 0
    Handed k out = (i : ℕ) (l : Interest) → slice_get ls i ≡ Some l → get_or out i 0 ≡ cond (other_at v l && ltb (before ls i) k) (get_or parts (before ls i) 0) (get_or old i 0)

    -- all have
    abbrev pub HandedAll : List ℕ → Type 0
    HandedAll out = (i : ℕ) (l : Interest) → slice_get ls i ≡ Some l → get_or out i 0 ≡ cond (other_at v l) (get_or parts (before ls i) 0) (get_or old i 0)

    module _ (k : ℕ) (t : Turn) (e : slice_get (turns_from v 0 ls) k ≡ Some t) where
      pub turn_within : t.place < length ls
      turn_within =
          let w = turn_stands ls 0 k t e in
          ⊎_elim (λ lt. omega (arith, w.2)) (λ le. let n = slice_get_past ls w.0 le in cc) (cases_lt w.0 (length ls))

      -- the place has its part
      the_place : (i : ℕ) (l : Interest) → slice_get ls i ≡ Some l → i ≡ t.place → (other_at v l ≡ true) × (before ls i ≡ k)
      the_place i l at same =
          let w = turn_stands ls 0 k t e in
          let q : i ≡ w.0 = omega (arith, w.2) in
          let s : w.1 ≡ l = (let m = w.3 in let n = ap (slice_get ls) q in cc) in
          (ap (other_at v) (sym s) ∙ w.4, ap (before ls) q ∙ w.5)

      -- any other place is before it or behind it
      no_other : (i : ℕ) (l : Interest) → slice_get ls i ≡ Some l → i ≢ t.place → other_at v l ≡ true → ltb (before ls i) (k + 1) ≡ ltb (before ls i) k
      no_other i l at ne pass =
          let w = turn_stands ls 0 k t e in
          ⊎_elim
          (λ lt. let b = before_less ls i w.0 l at pass lt in grind (arith, b, w.5))
          (λ le. let b = before_less ls w.0 i w.1 w.3 w.4 (omega (arith, w.2)) in grind (arith, b, w.5))
          (cases_lt i w.0)

      module _ (out : List ℕ) (inv : Handed k out) (long : length out ≡ length ls) (y : ℕ) (part : y ≡ get_or parts k 0) where
        pub handed_more : Handed (k + 1) (set out t.place y)
        handed_more i l at =
            let lt = turn_within in
            ⊎_elim
            (λ same.
            let o = the_place i l at same in
            let n : ltb (before ls i) (k + 1) ≡ true = grind (arith, o.1) in
            ap (λ j. get_or (set out t.place y) j 0) same ∙ get_or-set_same out t.place y 0 (omega arith) ∙ part ∙ ap (λ j. get_or parts j 0) (sym o.1) ∙
            sym (cond-true (other_at v l && ltb (before ls i) (k + 1)) (get_or parts (before ls i) 0) (get_or old i 0) (and_from (other_at v l) (ltb (before ls i) (k + 1)) o.0 n)))
            (λ ne.
            get_or-set_other out t.place i y 0 ne ∙ inv i l at ∙
            ⊎_elim
            (λ pass. ap (λ b. cond (other_at v l && b) (get_or parts (before ls i) 0) (get_or old i 0)) (sym (no_other i l at ne pass)))
            (λ fail. grind (arith, fail))
            (cases_Bool (other_at v l)))
            (cases_eq i t.place)

    pub handed_all : (k : ℕ) (out : List ℕ) → Handed k out → k ≡ length (turns_from v 0 ls) → HandedAll out
    handed_all k out inv all i l at =
        let m = ap length (turn_sizes v 0 ls) in
        let n = length-map (turns_from v 0 ls) (λ t. t.size) in
        ⊎_elim
        (λ pass.
        let h = place_here (λ _. 0) (λ _. 0) ls i l at (other_at v) pass in
        let b : ltb (before ls i) k ≡ true = grind (arith, h, m, n, all) in
        inv i l at ∙ cond-true (other_at v l && ltb (before ls i) k) (get_or parts (before ls i) 0) (get_or old i 0) (and_from (other_at v l) (ltb (before ls i) k) pass b) ∙
        sym (cond-true (other_at v l) (get_or parts (before ls i) 0) (get_or old i 0) pass))
        (λ fail.
        inv i l at ∙ cond-false (other_at v l && ltb (before ls i) k) (get_or parts (before ls i) 0) (get_or old i 0) (and_left (other_at v l) (ltb (before ls i) k) fail) ∙
        sym (cond-false (other_at v l) (get_or parts (before ls i) 0) (get_or old i 0) fail))
        (cases_Bool (other_at v l))
