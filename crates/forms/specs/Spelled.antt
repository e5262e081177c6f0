-- The plain spelling of a form: one space between words and lists, none beside a bracket within.
use Rattle.std.specs.Prelude.{ℕ, List, [], ◌∷◌, ◌++◌, ℤ, Some, Option, codes}
use Rattle.std.specs.Fmt.{◌++?◌, signed_decimal}
use Rattle.market.specs.Names.{side_name, leg_text, class_name, mechanism_name, edge_name}
use Rattle.market.specs.declared.names.Leg.{Leg}
use Rattle.forms.specs.declared.form.Response.{Response}
use Rattle.forms.specs.Shapes.{Shape, series, net, quote, rest, away, enter, respond, amend, delete, settle, halt}

-- each item behind a space, if each has a text
abbrev pub spaced_text : {X : Type 0} → (X → Option (List ℕ)) → List X → Option (List ℕ)
spaced_text text [] = Some []
spaced_text text (x ∷ xs) = Some (codes " ") ++? (text x ++? spaced_text text xs)

-- each leg behind a space
abbrev pub legs_text : List Leg → List ℕ
legs_text [] = []
legs_text (l ∷ ls) = codes " " ++ (leg_text l ++ legs_text ls)

-- each number behind a space
abbrev pub more_text : List ℤ → List ℕ
more_text [] = []
more_text (n ∷ ns) = codes " " ++ (signed_decimal n ++ more_text ns)

abbrev pub numbers_text : List ℤ → List ℕ
numbers_text [] = []
numbers_text (n ∷ ns) = signed_decimal n ++ more_text ns

abbrev pub response_text : Response → List ℕ
response_text r = signed_decimal r.member ++ (codes " " ++ (signed_decimal r.slot ++ (codes " " ++ (signed_decimal r.price ++ (codes " " ++ (signed_decimal r.size ++ (codes " " ++ (class_name r.class ++ (codes " (at " ++ (signed_decimal r.at ++ codes ")"))))))))))

-- reserve, time, moment
abbrev pub terms_text : ℤ → ℤ → ℤ → List ℕ
terms_text r t a = codes "(reserve " ++ (signed_decimal r ++ (codes ") (time " ++ (signed_decimal t ++ (codes ") (at " ++ (signed_decimal a ++ codes ")")))))

abbrev pub spelling : Shape → List ℕ
spelling (series n) = codes "(house " ++ (signed_decimal n ++ codes " series)")
spelling (net n ls) = codes "(house " ++ (signed_decimal n ++ (codes " net" ++ (legs_text ls ++ codes ")")))
spelling (quote l e p ns) = codes "(quote " ++ (signed_decimal l ++ (codes " " ++ (edge_name e ++ (codes " " ++ (signed_decimal p ++ (codes " (" ++ (numbers_text ns ++ codes "))")))))))
spelling (rest n s p q k) = codes "(rest " ++ (signed_decimal n ++ (codes " " ++ (side_name s ++ (codes " " ++ (signed_decimal p ++ (codes " " ++ (signed_decimal q ++ (codes " " ++ (class_name k ++ codes ")")))))))))
spelling (away s p) = codes "(away " ++ (side_name s ++ (codes " " ++ (signed_decimal p ++ codes ")")))
spelling (enter m s z p r t a) = codes "(enter " ++ (mechanism_name m ++ (codes " " ++ (side_name s ++ (codes " " ++ (signed_decimal z ++ (codes " " ++ (signed_decimal p ++ (codes " " ++ (terms_text r t a ++ codes ")")))))))))
spelling (respond r) = codes "(respond " ++ (response_text r ++ codes ")")
spelling (amend r) = codes "(amend " ++ (response_text r ++ codes ")")
spelling (delete m o a) = codes "(delete " ++ (signed_decimal m ++ (codes " " ++ (signed_decimal o ++ (codes " (at " ++ (signed_decimal a ++ codes "))")))))
spelling (settle a) = codes "(settle (at " ++ (signed_decimal a ++ codes "))")
spelling (halt a) = codes "(halt (at " ++ (signed_decimal a ++ codes "))")
