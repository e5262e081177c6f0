-- What a byte's kind says of the byte.
use Rattle.std.proofs.Common.{◌≡◌, ℕ, suc, ◌+◌, ◌<◌, Bool, true, false, eqb, List, [], ◌∷◌, ◌++◌, length, get_or, drop, sym, refl, ap, ◌∙◌, subst, ⊎_elim, add-one, arith}
use Rattle.std.specs.List.{AllByRecursion}
use Rattle.std.proofs.lemmas.List.{at_drop_more, at_drop_all}
use Rattle.std.proofs.lemmas.Bool.{cond_both, cond-true, cond-false, eqb-true, eqb-false, ne_eqb, cases_lt}
use Rattle.std.proofs.lemmas.Bool.Decides.{nat_tests}
use Rattle.words.specs.declared.bytes.Kind.{Kind}
use Rattle.words.specs.declared.bytes.Kind.TheVariants.{LineEnd, Space, Open, Close, Semicolon, Letter, Other}
use Rattle.words.specs.Bytes.{word_byte, kind, next, begins, run, behind}

abbrev pub Told : Kind → ℕ → Type 0
Told LineEnd b = b ≡ 10
Told Space b = b ≡ 32
Told Open b = b ≡ 40
Told Close b = b ≡ 41
Told Semicolon b = (b ≡ 59)
Told Letter b = (word_byte b ≡ true) × (b ≡ 10 → ⊥)
Told Other b = (word_byte b ≡ false) × (b ≡ 10 → ⊥) × (b ≡ 32 → ⊥) × (b ≡ 40 → ⊥) × (b ≡ 41 → ⊥)

pub told : (b : ℕ) → Told (kind b) b
told b =
    let P : Kind → Type 0 = λ k. Told k b in
    cond_both (eqb b 10) _ _ P (eqb-true b 10) (λ n0. cond_both (eqb b 32) _ _ P (eqb-true b 32) (λ n1. cond_both (eqb b 40) _ _ P (eqb-true b 40) (λ n2. cond_both (eqb b 41) _ _ P (eqb-true b 41) (λ n3. cond_both (eqb b 59) _ _ P (eqb-true b 59)
    (λ n4. cond_both (word_byte b) _ _ P (λ w. (w, eqb-false b 10 n0)) (λ w. (w, eqb-false b 10 n0, eqb-false b 32 n1, eqb-false b 40 n2, eqb-false b 41 n3)))))))

pub word_kind : (b : ℕ) → word_byte b ≡ true → kind b ≡ Letter
word_kind b h = grind (arith, nat_tests)

-- within the sheet where the line does not end
pub within : (s : List ℕ) (at : ℕ) → (next (drop at s) ≡ LineEnd → ⊥) → at < length s
within s at h = ⊎_elim (λ l. l) (λ g. absurd (h (at_drop_all next s at g))) (cases_lt at (length s))

pub told_at : (s : List ℕ) (at : ℕ) (k : Kind) → at < length s → next (drop at s) ≡ k → Told k (get_or s at 0)
told_at s at k l e = subst (λ j. Told j (get_or s at 0)) (sym (at_drop_more next s at 0 l) ∙ e) (told (get_or s at 0))

pub record LetterAt (s : List ℕ) (at : ℕ) : Type 0 where
  pub inside : at < length s
  pub same : eqb (get_or s at 0) 10 ≡ false
  pub more : run (drop at s) ≡ run (drop (at + 1) s) + 1

pub letter_at : (s : List ℕ) (at : ℕ) → next (drop at s) ≡ Letter → LetterAt s at
letter_at s at e =
    let l = within s at (λ f. cc) in
    let t = told_at s at Letter l e in
    record {
      inside = l;
      same = ne_eqb _ 10 t.1;
      more = at_drop_more run s at 0 l ∙ cond-true _ _ _ t.0 ∙ sym (add-one (run (drop (at + 1) s)));
    }

pub not_end : (k : Kind) (b : ℕ) → Told k b → (k ≡ LineEnd → ⊥) → b ≡ 10 → ⊥
not_end LineEnd b t h e = h refl
not_end Space b t h e = omega arith
not_end Open b t h e = omega arith
not_end Close b t h e = omega arith
not_end Semicolon b t h e = omega arith
not_end Letter b t h e = t.1 e
not_end Other b t h e = t.1 e

-- the longest word at the front
pub record Cut (s : List ℕ) : Type 0 where
  pub w : List ℕ
  pub t : List ℕ
  pub parts : s ≡ w ++ t
  pub wordy : AllByRecursion (λ b. word_byte b ≡ true) w
  pub stops : begins t ≡ false
  pub long : run s ≡ length w
  pub tail : behind s ≡ behind t

pub cut : (s : List ℕ) → Cut s
cut [] = record { w = []; t = []; parts = refl; wordy = tt; stops = refl; long = refl; tail = refl }
cut (b ∷ bs) = go (word_byte b) refl (cut bs)
  where
    go : (x : Bool) → word_byte b ≡ x → Cut bs → Cut (b ∷ bs)
    go true e c = record {
      w = b ∷ c.w;
      t = c.t;
      parts = ap (λ l. b ∷ l) c.parts;
      wordy = (e, c.wordy);
      stops = c.stops;
      long = cond-true _ _ _ e ∙ ap suc c.long;
      tail = cond-false _ _ _ (ne_eqb b 10 (subst (λ k. Told k b) (word_kind b e) (told b)).1) ∙ c.tail;
    }
    go false e c = record { w = []; t = b ∷ bs; parts = refl; wordy = tt; stops = e; long = cond-false _ _ _ e; tail = refl }
