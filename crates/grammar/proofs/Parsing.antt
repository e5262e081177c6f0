-- The reader of forms agrees with the relation.
use Rattle.std.proofs.Common.{◌≡◌, ℕ, List, [], ◌∷◌, ◌++◌, ℤ, Ok, codes, Result, refl, ap, ◌∙◌, subst, append_assoc}
use Rattle.market.specs.Names.{class_name, edge_name}
use Rattle.words.specs.Number.{Number}
use Rattle.words.specs.Tokens.{Tok}
use Rattle.forms.specs.declared.form.Response.{Response}
use Rattle.forms.specs.declared.trouble.Expected.TheVariants as expected
use Rattle.forms.specs.declared.trouble.Trouble.{Trouble}
use Rattle.forms.specs.Shapes.{Shape}
use Rattle.forms.specs.Shapes as shapes
use Rattle.parse.specs.Parser.{Read, then, number_of, moment_of, close_of, Beginning, whole, legs_of, sizes_of, closed, house_of, house_in, quote_of, rest_of, away_of, enter_of, response_of, respond_of, amend_of, delete_of, settle_of, halt_of, body_of, begin_of, finish_of, form_of, next_leg_of, size_of, items_of}
use Rattle.grammar.specs.Grammar.{Bare, keyed, Writes}
use Rattle.grammar.proofs.Spelling.{Spells, opens, words, join, part, nothing_left}
use Rattle.grammar.proofs.Fields.{ok_same, never_some, then_ok, step, follow, opening_read, closing_read, number, side, class, mechanism, edge, kind, name, either_name, key_number}
use Rattle.grammar.proofs.Lists.{sizes, legs}

-- the rest of a form behind its name
abbrev Rest : List ℕ → List Tok → List Tok → Shape → Type 0
Rest name ts us f = (bs : List Bare) × Spells ts bs us × Writes (Bare.opening ∷ Bare.word name ∷ bs) f

closed_ok : (ts us vs : List Tok) (b : Beginning) (f g : Shape) → closed g ts ≡ Ok (b, vs) → finish_of b vs ≡ Ok (f, us) → Spells ts (Bare.closing ∷ []) us × (g ≡ f)
closed_ok ts us vs b f g e h =
    let c = step closing_read e in
    let q = ok_same _ _ c.next in
    let r = ok_same _ _ ((λ j. finish_of (q j).0 (q j).1) ∙ h) in
    (subst (Spells ts (Bare.closing ∷ [])) (λ j. (r j).1) c.spelt, λ j. (r j).0)

-- a form without a list
ended : {name : List ℕ} {bs : List Bare} {ts xs us vs : List Tok} {b : Beginning} {f g : Shape} → Spells ts bs xs → Writes (Bare.opening ∷ Bare.word name ∷ (bs ++ Bare.closing ∷ [])) g → closed g xs ≡ Ok (b, vs) → finish_of b vs ≡ Ok (f, us) → Rest name ts us f
ended {name} {bs} {ts} {xs} {us} {vs} {b} {f} {g} p w e h =
    let c = closed_ok xs us vs b f g e h in
    (bs ++ Bare.closing ∷ [], join p c.0, subst (Writes (Bare.opening ∷ Bare.word name ∷ (bs ++ Bare.closing ∷ []))) c.1 w)

rest_sound : (ts us vs : List Tok) (b : Beginning) (f : Shape) → rest_of ts ≡ Ok (b, vs) → finish_of b vs ≡ Ok (f, us) → Rest (codes "rest") ts us f
rest_sound ts us vs b f e h =
    let n = step number e in
    let s = step side n.next in
    let p = step number s.next in
    let q = step number p.next in
    let k = step class q.next in
    ended (join n.spelt (join s.spelt (join p.spelt (join q.spelt k.spelt)))) (Writes.rest n.is p.is q.is) k.next h

away_sound : (ts us vs : List Tok) (b : Beginning) (f : Shape) → away_of ts ≡ Ok (b, vs) → finish_of b vs ≡ Ok (f, us) → Rest (codes "away") ts us f
away_sound ts us vs b f e h =
    let s = step side e in
    let p = step number s.next in
    ended (join s.spelt p.spelt) (Writes.away p.is) p.next h

enter_sound : (ts us vs : List Tok) (b : Beginning) (f : Shape) → enter_of ts ≡ Ok (b, vs) → finish_of b vs ≡ Ok (f, us) → Rest (codes "enter") ts us f
enter_sound ts us vs b f e h =
    let m = step mechanism e in
    let s = step side m.next in
    let z = step number s.next in
    let p = step number z.next in
    let r = step (key_number (codes "reserve") expected.Reserve) p.next in
    let t = step (key_number (codes "time") expected.Time) r.next in
    let a = step (key_number (codes "at") expected.At) t.next in
    ended (join m.spelt (join s.spelt (join z.spelt (join p.spelt (join r.spelt (join t.spelt a.spelt)))))) (Writes.enter z.is p.is r.is t.is a.is) a.next h

-- a response's words
abbrev response_words : Response → List ℕ → List ℕ → List ℕ → List ℕ → List ℕ → List Bare
response_words r v w x y z = Bare.word v ∷ Bare.word w ∷ Bare.word x ∷ Bare.word y ∷ Bare.word (class_name r.class) ∷ keyed (codes "at") z []

record Responds (r : Response) (ts us : List Tok) : Type 0 where
  v : List ℕ
  w : List ℕ
  x : List ℕ
  y : List ℕ
  z : List ℕ
  member : Number v r.member
  slot : Number w r.slot
  price : Number x r.price
  size : Number y r.size
  at : Number z r.at
  spelt : Spells ts (response_words r v w x y z) us

response_sound : (ts us : List Tok) (r : Response) → response_of ts ≡ Ok (r, us) → Responds r ts us
response_sound ts us r e =
    let m = step number e in
    let o = step number m.next in
    let p = step number o.next in
    let q = step number p.next in
    let k = step class q.next in
    let a = step (key_number (codes "at") expected.At) k.next in
    let i = ok_same _ _ a.next in
    subst (λ t. Responds t.0 ts t.1) i (record {
      v = m.text;
      w = o.text;
      x = p.text;
      y = q.text;
      z = a.text;
      member = m.is;
      slot = o.is;
      price = p.is;
      size = q.is;
      at = a.is;
      spelt = join m.spelt (join o.spelt (join p.spelt (join q.spelt (join k.spelt a.spelt))));
    })

respond_sound : (ts us vs : List Tok) (b : Beginning) (f : Shape) → respond_of ts ≡ Ok (b, vs) → finish_of b vs ≡ Ok (f, us) → Rest (codes "respond") ts us f
respond_sound ts us vs b f e h =
    let p = then_ok (response_of ts) _ _ e in
    let r = response_sound ts p.1 p.0 p.2 in
    ended r.spelt (Writes.respond r.member r.slot r.price r.size r.at) p.3 h

amend_sound : (ts us vs : List Tok) (b : Beginning) (f : Shape) → amend_of ts ≡ Ok (b, vs) → finish_of b vs ≡ Ok (f, us) → Rest (codes "amend") ts us f
amend_sound ts us vs b f e h =
    let p = then_ok (response_of ts) _ _ e in
    let r = response_sound ts p.1 p.0 p.2 in
    ended r.spelt (Writes.amend r.member r.slot r.price r.size r.at) p.3 h

delete_sound : (ts us vs : List Tok) (b : Beginning) (f : Shape) → delete_of ts ≡ Ok (b, vs) → finish_of b vs ≡ Ok (f, us) → Rest (codes "delete") ts us f
delete_sound ts us vs b f e h =
    let m = step number e in
    let o = step number m.next in
    let a = step (key_number (codes "at") expected.At) o.next in
    ended (join m.spelt (join o.spelt a.spelt)) (Writes.delete m.is o.is a.is) a.next h

settle_sound : (ts us vs : List Tok) (b : Beginning) (f : Shape) → settle_of ts ≡ Ok (b, vs) → finish_of b vs ≡ Ok (f, us) → Rest (codes "settle") ts us f
settle_sound ts us vs b f e h = let a = step (key_number (codes "at") expected.At) e in ended a.spelt (Writes.settle a.is) a.next h

halt_sound : (ts us vs : List Tok) (b : Beginning) (f : Shape) → halt_of ts ≡ Ok (b, vs) → finish_of b vs ≡ Ok (f, us) → Rest (codes "halt") ts us f
halt_sound ts us vs b f e h = let a = step (key_number (codes "at") expected.At) e in ended a.spelt (Writes.halt a.is) a.next h

quote_sound : (ts us vs : List Tok) (b : Beginning) (f : Shape) → quote_of ts ≡ Ok (b, vs) → finish_of b vs ≡ Ok (f, us) → Rest (codes "quote") ts us f
quote_sound ts us vs b f e h =
    let l = step number e in
    let d = step edge l.next in
    let p = step number d.next in
    let o = step (opening_read expected.Opening) p.next in
    let i = ok_same _ _ o.next in
    let a = then_ok (items_of size_of o.left) _ _ ((λ j. finish_of (i j).0 (i j).1) ∙ h) in
    let n = sizes.sound o.left a.1 a.0 a.2 in
    let c = step closing_read a.3 in
    let q = ok_same _ _ c.next in (
      _,
      join l.spelt (join d.spelt (join p.spelt (join o.spelt (rw append_assoc at (join n.2 (subst (Spells a.1 (Bare.closing ∷ [])) (λ j. (q j).1) c.spelt)))))),
      subst (Writes _) (λ j. (q j).0) (Writes.quote {e = d.value} l.is p.is n.1),
    )

net_sound : (n : ℤ) (x : List ℕ) (ts us : List Tok) (f : Shape) → Number x n → finish_of (legs_of n) ts ≡ Ok (f, us) → (bs : List Bare) × Spells ts bs us × Writes (Bare.opening ∷ Bare.word (codes "house") ∷ Bare.word x ∷ Bare.word (codes "net") ∷ bs) f
net_sound n x ts us f r h =
    let a = then_ok (items_of next_leg_of ts) _ _ h in
    let i = legs.sound ts a.1 a.0 a.2 in
    let q = ok_same _ _ a.3 in
    (i.0 ++ Bare.closing ∷ [], subst (Spells ts (i.0 ++ Bare.closing ∷ [])) (λ j. (q j).1) i.2, subst (Writes _) (λ j. (q j).0) (Writes.net r i.1))

house_sound : (ts us vs : List Tok) (b : Beginning) (f : Shape) → house_of ts ≡ Ok (b, vs) → finish_of b vs ≡ Ok (f, us) → Rest (codes "house") ts us f
house_sound ts us vs b f e h =
    let n = step number e in
    let k = step kind n.next in
    either_name (λ m. house_in n.value m k.left) k.is k.next
    (λ i g.
    let w : Spells n.left (Bare.word (codes "series") ∷ []) k.left = subst (λ t. Spells n.left (Bare.word t ∷ []) k.left) i k.spelt in
    ended (join n.spelt w) (Writes.series n.is) g h)
    (λ r. either_name (λ m. house_in n.value m k.left) r k.next
    (λ i g.
    let w : Spells n.left (Bare.word (codes "net") ∷ []) k.left = subst (λ t. Spells n.left (Bare.word t ∷ []) k.left) i k.spelt in
    let q = ok_same _ _ g in
    let z = net_sound n.value n.text k.left us f n.is ((λ j. finish_of (q j).0 (q j).1) ∙ h) in
    (Bare.word n.text ∷ Bare.word (codes "net") ∷ z.0, join n.spelt (join w z.1), z.2))
    (never_some _))

pub form_sound : (ts us : List Tok) (f : Shape) → form_of ts ≡ Ok (f, us) → (bs : List Bare) × Spells ts bs us × Writes bs f
form_sound ts us f e =
    let a = then_ok (begin_of ts) finish_of (f, us) e in
    let b = a.0 in
    let vs = a.1 in
    let o = step (opening_read expected.Form) a.2 in
    let n = step name o.next in
    let ws = n.left in
    let made : (k : List ℕ) → n.text ≡ k → Rest k ws us f → (bs : List Bare) × Spells ts bs us × Writes bs f = λ k i r.
    let w : Spells o.left (Bare.word k ∷ []) ws = subst (λ t. Spells o.left (Bare.word t ∷ []) ws) i n.spelt in
    (Bare.opening ∷ Bare.word k ∷ r.0, join o.spelt (join w r.1), r.2) in
    either_name (λ m. body_of m ws) n.is n.next (λ i g. made (codes "house") i (house_sound ws us vs b f g a.3))
    (λ e1. either_name (λ m. body_of m ws) e1 n.next (λ i g. made (codes "quote") i (quote_sound ws us vs b f g a.3))
    (λ e2. either_name (λ m. body_of m ws) e2 n.next (λ i g. made (codes "rest") i (rest_sound ws us vs b f g a.3))
    (λ e3. either_name (λ m. body_of m ws) e3 n.next (λ i g. made (codes "away") i (away_sound ws us vs b f g a.3))
    (λ e4. either_name (λ m. body_of m ws) e4 n.next (λ i g. made (codes "enter") i (enter_sound ws us vs b f g a.3))
    (λ e5. either_name (λ m. body_of m ws) e5 n.next (λ i g. made (codes "respond") i (respond_sound ws us vs b f g a.3))
    (λ e6. either_name (λ m. body_of m ws) e6 n.next (λ i g. made (codes "amend") i (amend_sound ws us vs b f g a.3))
    (λ e7. either_name (λ m. body_of m ws) e7 n.next (λ i g. made (codes "delete") i (delete_sound ws us vs b f g a.3))
    (λ e8. either_name (λ m. body_of m ws) e8 n.next (λ i g. made (codes "settle") i (settle_sound ws us vs b f g a.3))
    (λ e9. either_name (λ m. body_of m ws) e9 n.next (λ i g. made (codes "halt") i (halt_sound ws us vs b f g a.3))
    (never_some _))))))))))

whole_is : {r : Read Beginning} {f : Shape} {us : List Tok} → r ≡ Ok (whole f, us) → then r finish_of ≡ Ok (f, us)
whole_is e = ap (λ r. then r finish_of) e

closed_is : (f : Shape) {ts us : List Tok} → Spells ts (Bare.closing ∷ []) us → closed f ts ≡ Ok (whole f, us)
closed_is f p = follow closing_read _ [] tt tt p (λ _ q. ap (λ vs. Ok (whole f, vs)) (nothing_left q))

moment_then : {B : Type 0} {ts us : List Tok} {bs : List Bare} {y : Result B Trouble} {x : List ℕ} {n : ℤ} (k : ℤ → List Tok → Result B Trouble) → Number x n → Spells ts (keyed (codes "at") x bs) us → ((vs : List Tok) → Spells vs bs us → k n vs ≡ y) → then (moment_of ts) k ≡ y
moment_then {x = x} {n = n} k r p next = follow (key_number (codes "at") expected.At) k x n r p next

number_then : {B : Type 0} {ts us : List Tok} {bs : List Bare} {y : Result B Trouble} {x : List ℕ} {n : ℤ} (k : ℤ → List Tok → Result B Trouble) → Number x n → Spells ts (Bare.word x ∷ bs) us → ((vs : List Tok) → Spells vs bs us → k n vs ≡ y) → then (number_of ts) k ≡ y
number_then {x = x} {n = n} k r p next = follow number k x n r p next

response_is : {v w x y z : List ℕ} {ts us : List Tok} (r : Response) → Number v r.member → Number w r.slot → Number x r.price → Number y r.size → Number z r.at → Spells ts (response_words r v w x y z) us → response_of ts ≡ Ok (r, us)
response_is r a b c d e p =
    number_then _ a p (λ _ p1. number_then _ b p1 (λ _ p2. number_then _ c p2 (λ _ p3. number_then _ d p3 (λ _ p4.
    follow class _ [] r.class tt p4 (λ _ p5. moment_then _ e p5 (λ _ p6. ap (λ vs. Ok (r, vs)) (nothing_left p6)))))))

responded : {v w x y z : List ℕ} {ts us : List Tok} (r : Response) (f : Response → Shape) → Number v r.member → Number w r.slot → Number x r.price → Number y r.size → Number z r.at → Spells ts (response_words r v w x y z ++ Bare.closing ∷ []) us → then (response_of ts) (λ t vs. closed (f t) vs) ≡ Ok (whole (f r), us)
responded {v} {w} {x} {y} {z} r f a b c d e p =
    let q = part (response_words r v w x y z) (Bare.closing ∷ []) p in
    ap (λ o. then o (λ t vs. closed (f t) vs)) (response_is r a b c d e q.1) ∙ closed_is (f r) q.2

pub form_complete : {bs : List Bare} {f : Shape} {ts us : List Tok} → Writes bs f → Spells ts bs us → form_of ts ≡ Ok (f, us)
form_complete (Writes.series {n = n} r) (opens (words p)) =
    whole_is (number_then _ r p (λ _ p1. follow kind _ (codes "series") _ refl p1 (λ _ p2. closed_is (shapes.series n) p2)))
form_complete {us = us} (Writes.net {x = x} {n = n} {ws = ws} {ls = ls} r i) (opens (words p)) =
    let q = part (Bare.word x ∷ Bare.word (codes "net") ∷ []) (ws ++ Bare.closing ∷ []) p in
    ap (λ o. then o finish_of) (number_then _ r q.1 (λ _ p1. follow kind _ (codes "net") _ refl p1 (λ _ p2. ap (λ vs. Ok (legs_of n, vs)) (nothing_left p2))))
    ∙ ap (λ o. then o (λ ls us. Ok (shapes.net n ls, us))) (legs.complete q.0 us ws ls i q.2)
form_complete {us = us} (Writes.quote {x = x} {y = y} {l = l} {p = m} {e = e} {ws = ws} {ns = ns} a b i) (opens (words p)) =
    let q = part (Bare.word x ∷ Bare.word (edge_name e) ∷ Bare.word y ∷ Bare.opening ∷ []) (ws ++ Bare.closing ∷ Bare.closing ∷ []) p in
    let s = part (ws ++ Bare.closing ∷ []) (Bare.closing ∷ []) (rw append_assoc q.2) in
    ap (λ o. then o finish_of)
    (number_then _ a q.1 (λ _ p1. follow edge _ [] e tt p1 (λ _ p2. number_then _ b p2 (λ _ p3. follow (opening_read expected.Opening) _ [] tt tt p3 (λ _ p4. ap (λ vs. Ok (sizes_of l e m, vs)) (nothing_left p4))))))
    ∙ ap (λ o. then o (λ ns us. then (close_of us) (λ _ vs. Ok (shapes.quote l e m ns, vs)))) (sizes.complete q.0 s.0 ws ns i s.1)
    ∙ follow closing_read _ [] tt tt s.2 (λ _ p5. ap (λ vs. Ok (shapes.quote l e m ns, vs)) (nothing_left p5))
form_complete (Writes.rest {n = n} {p = m} {q = q} {s = s} {k = k} a b c) (opens (words p)) =
    whole_is (number_then _ a p (λ _ p1. follow side _ [] s tt p1 (λ _ p2. number_then _ b p2 (λ _ p3. number_then _ c p3 (λ _ p4. follow class _ [] k tt p4 (λ _ p5. closed_is (shapes.rest n s m q k) p5))))))
form_complete (Writes.away {s = s} {p = m} r) (opens (words p)) =
    whole_is (follow side _ [] s tt p (λ _ p1. number_then _ r p1 (λ _ p2. closed_is (shapes.away s m) p2)))
form_complete (Writes.enter {m = m} {s = s} {x = x} {y = y} {q = q} {p = o} {r = r} {t = t} {a = a} h1 h2 h3 h4 h5) (opens (words p)) =
    whole_is (follow mechanism _ [] m tt p (λ _ p1. follow side _ [] s tt p1 (λ _ p2. number_then _ h1 p2 (λ _ p3. number_then _ h2 p3 (λ _ p4.
    follow (key_number (codes "reserve") expected.Reserve) _ x r h3 p4 (λ _ p5. follow (key_number (codes "time") expected.Time) _ y t h4 p5 (λ _ p6. moment_then _ h5 p6 (λ _ p7. closed_is (shapes.enter m s q o r t a) p7))))))))
form_complete (Writes.respond {m = m} {o = o} {p = c} {q = q} {a = a} {k = k} h1 h2 h3 h4 h5) (opens (words p)) =
    whole_is (responded (record { member = m; slot = o; price = c; size = q; class = k; at = a }) shapes.respond h1 h2 h3 h4 h5 p)
form_complete (Writes.amend {m = m} {o = o} {p = c} {q = q} {a = a} {k = k} h1 h2 h3 h4 h5) (opens (words p)) =
    whole_is (responded (record { member = m; slot = o; price = c; size = q; class = k; at = a }) shapes.amend h1 h2 h3 h4 h5 p)
form_complete (Writes.delete {m = m} {o = o} {a = a} h1 h2 h3) (opens (words p)) =
    whole_is (number_then _ h1 p (λ _ p1. number_then _ h2 p1 (λ _ p2. moment_then _ h3 p2 (λ _ p3. closed_is (shapes.delete m o a) p3))))
form_complete (Writes.settle {a = a} r) (opens (words p)) = whole_is (moment_then _ r p (λ _ p1. closed_is (shapes.settle a) p1))
form_complete (Writes.halt {a = a} r) (opens (words p)) = whole_is (moment_then _ r p (λ _ p1. closed_is (shapes.halt a) p1))
