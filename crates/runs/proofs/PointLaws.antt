-- Which graph is in force after one call more, and when its folder was last summarised.
use Rattle.std.proofs.Common.{◌≡◌, ◌≢◌, ℕ, zero, suc, ◌+◌, ◌<◌, Bool, true, false, cond, ◌⊎◌, List, [], ◌∷◌, ◌++◌, length, Some, None, Option, sym, refl, ap, ◌∙◌, subst, inl, inr, ⊎_elim, append-nil, arith}
use Rattle.std.specs.List.{flat_map, slice_get}
use Rattle.std.proofs.lemmas.Grind.{flat_map-append}
use Rattle.locks.specs.Graphs.{Graph}
use Rattle.runs.specs.declared.calls.WhichFolder.{WhichFolder}
use Rattle.runs.specs.declared.calls.WhichFolder.TheVariants.{First, Second}
use Rattle.runs.specs.Rules.{SummarisedBy, NoneExchanged, LastExchanged, InForceIsTheLastExchange}
use Rattle.runs.specs.Calls.{CallMeaning, put_by, last_of, by_which, in_force, same, exchange, summarise, entry, ask, replay, renews}

pub last_after : {A : Type 0} (x : A) (ys zs : List A) → last_of x (ys ++ zs) ≡ last_of (last_of x ys) zs
last_after x [] zs = refl
last_after x (y ∷ ys) zs = last_after y ys zs

pub in_force_after : (w : WhichFolder) (G H : Graph) (cs : List CallMeaning) (c : CallMeaning) → in_force w G H (cs ++ c ∷ []) ≡ last_of (in_force w G H cs) (put_by w c)
in_force_after w G H cs c =
    ap (last_of (by_which G H w)) (flat_map-append (put_by w) cs (c ∷ []))
    ∙ last_after (by_which G H w) (flat_map (put_by w) cs) (put_by w c ++ [])
    ∙ ap (last_of (in_force w G H cs)) (append-nil (put_by w c))

-- it is that of the last exchange

same_which : (v w : WhichFolder) → same w v ≡ true → v ≡ w
same_which First First e = refl
same_which First Second e = absurd cc
same_which Second First e = absurd cc
same_which Second Second e = refl

same_self : (w : WhichFolder) → same w w ≡ true
same_self First = refl
same_self Second = refl

-- a call puts its graph into the folder, or is no exchange of it
abbrev ByCall : WhichFolder → Graph → CallMeaning → Graph → Type 0
ByCall w K c X = ((M : Graph) × (c ≡ exchange w M) × (X ≡ M)) ⊎ (((M : Graph) → c ≢ exchange w M) × (X ≡ K))

exchanged_by : (w : WhichFolder) (K : Graph) (v : WhichFolder) (M : Graph) (b : Bool) → same w v ≡ b → ByCall w K (exchange v M) (last_of K (cond b (M ∷ []) []))
exchanged_by w K v M true e = inl (M, ap (λ u. exchange u M) (same_which v w e), refl)
exchanged_by w K v M false e =
    inr ((λ N d. let p : v ≡ w = cc in let q : false ≡ true = sym e ∙ ap (same w) p ∙ same_self w in cc), refl)

put_by_call : (w : WhichFolder) (K : Graph) (c : CallMeaning) → ByCall w K c (last_of K (put_by w c))
put_by_call w K (exchange v M) = exchanged_by w K v M (same w v) refl
put_by_call w K (summarise v) = inr ((λ M e. cc), refl)
put_by_call w K (entry v n) = inr ((λ M e. cc), refl)
put_by_call w K (ask q list) = inr ((λ M e. cc), refl)
put_by_call w K (replay q ns) = inr ((λ M e. cc), refl)

none_after : (w : WhichFolder) (c : CallMeaning) (cs : List CallMeaning) (n m : ℕ) → m ≡ n + 1 → NoneExchanged w n cs → NoneExchanged w m (c ∷ cs)
none_after w c cs n m s none zero M h e = omega arith
none_after w c cs n m s none (suc i) M h e = none i M (omega arith) e

none_before : (w : WhichFolder) (c : CallMeaning) (cs : List CallMeaning) → ((M : Graph) → c ≢ exchange w M) → NoneExchanged w 0 cs → NoneExchanged w 0 (c ∷ cs)
none_before w c cs other none zero M h e = other M (let p : c ≡ exchange w M = cc in p)
none_before w c cs other none (suc i) M h e = none i M (omega arith) e

last_exchanged : (w : WhichFolder) (K : Graph) (cs : List CallMeaning) → LastExchanged w K cs (last_of K (flat_map (put_by w) cs))
last_exchanged w K [] = inr ((λ i M h e. cc), refl)
last_exchanged w K (c ∷ cs) =
    subst (LastExchanged w K (c ∷ cs)) (sym (last_after K (put_by w c) (flat_map (put_by w) cs)))
    (⊎_elim (λ p. inl (suc p.0, p.1, none_after w c cs (p.0 + 1) (suc p.0 + 1) (omega arith) p.2)) (λ p. by_first p.0 p.1 (put_by_call w K c)) (last_exchanged w (last_of K (put_by w c)) cs))
  where
    by_first : {X : Graph} → NoneExchanged w 0 cs → X ≡ last_of K (put_by w c) → ByCall w K c (last_of K (put_by w c)) → LastExchanged w K (c ∷ cs) X
    by_first none e (inl (M, d, g)) = inl (zero, ap {B = Option CallMeaning} Some (d ∙ ap (exchange w) (sym (e ∙ g))), none_after w c cs 0 1 (omega arith) none)
    by_first none e (inr (other, g)) = inr (none_before w c cs other none, e ∙ g)

pub in_force_is_the_last_exchange : InForceIsTheLastExchange
in_force_is_the_last_exchange w G H cs = last_exchanged w (by_which G H w) cs

-- the place of the last summarise of a folder since its last exchange, from place n on, or else the one given
abbrev pub noted : WhichFolder → ℕ → CallMeaning → Option ℕ → Option ℕ
noted w n (exchange v K) o = cond (same w v) None o
noted w n (summarise v) o = cond (same w v) (Some n) o
noted w n (entry v m) o = o
noted w n (ask q list) o = o
noted w n (replay q ns) o = o

abbrev summarised_from : WhichFolder → ℕ → Option ℕ → List CallMeaning → Option ℕ
summarised_from w n o [] = o
summarised_from w n o (c ∷ cs) = summarised_from w (suc n) (noted w n c o) cs

abbrev pub summarised_at : WhichFolder → List CallMeaning → Option ℕ
summarised_at w cs = summarised_from w 0 None cs

summarised_after_from : (w : WhichFolder) (n : ℕ) (o : Option ℕ) (cs : List CallMeaning) (c : CallMeaning)
    → summarised_from w n o (cs ++ c ∷ []) ≡ noted w (n + length cs) c (summarised_from w n o cs)
summarised_after_from w n o [] c = ap (λ m. noted w m c o) (let p : n ≡ n + 0 = omega arith in p)
summarised_after_from w n o (d ∷ cs) c =
    summarised_after_from w (suc n) (noted w n d o) cs c
    ∙ ap (λ m. noted w m c (summarised_from w (suc n) (noted w n d o) cs)) (let p : suc n + length cs ≡ n + suc (length cs) = omega arith in p)

pub summarised_after : (w : WhichFolder) (cs : List CallMeaning) (c : CallMeaning) → summarised_at w (cs ++ c ∷ []) ≡ noted w (length cs) c (summarised_at w cs)
summarised_after w cs c = summarised_after_from w 0 None cs c ∙ ap (λ m. noted w m c (summarised_at w cs)) (let p : 0 + length cs ≡ length cs = omega arith in p)

-- that place is the rules' own

-- no call of these gives the folder other entries
abbrev Quiet : WhichFolder → List CallMeaning → Type 0
Quiet w cs = (j : ℕ) (c : CallMeaning) → slice_get cs j ≡ Some c → renews w c ≡ false

noted_quiet : (w : WhichFolder) (n : ℕ) (c : CallMeaning) (o : Option ℕ) → renews w c ≡ false → noted w n c o ≡ o
noted_quiet w n (exchange v K) o e = ap (λ b. cond b None o) e
noted_quiet w n (summarise v) o e = ap (λ b. cond b (Some n) o) e
noted_quiet w n (entry v m) o e = refl
noted_quiet w n (ask q list) o e = refl
noted_quiet w n (replay q ns) o e = refl

quiet_from : (w : WhichFolder) (n : ℕ) (o : Option ℕ) (cs : List CallMeaning) → Quiet w cs → summarised_from w n o cs ≡ o
quiet_from w n o [] q = refl
quiet_from w n o (c ∷ cs) q = quiet_from w (suc n) (noted w n c o) cs (λ j d e. q (suc j) d e) ∙ noted_quiet w n c o (q 0 c refl)

after_first : (w : WhichFolder) (c : CallMeaning) (cs : List CallMeaning) (i : ℕ) → SummarisedBy w (c ∷ cs) (suc i) → SummarisedBy w cs i
after_first w c cs i s = record { call = s.call; last = λ j d h e. s.last (suc j) d (omega arith) e }

last_from : (w : WhichFolder) (n : ℕ) (o : Option ℕ) (cs : List CallMeaning) (i : ℕ) → SummarisedBy w cs i → summarised_from w n o cs ≡ Some (n + i)
last_from w n o [] i s = absurd (let e = s.call in cc)
last_from w n o (c ∷ cs) zero s =
    let e : c ≡ summarise w = let p = s.call in cc in
    quiet_from w (suc n) (noted w n c o) cs (λ j d h. s.last (suc j) d (omega arith) h)
    ∙ ap (λ x. noted w n x o) e ∙ ap (λ b. cond b (Some n) o) (same_self w) ∙ ap {B = Option ℕ} Some (let p : n ≡ n + 0 = omega arith in p)
last_from w n o (c ∷ cs) (suc i) s =
    last_from w (suc n) (noted w n c o) cs i (after_first w c cs i s) ∙ ap {B = Option ℕ} Some (let p : suc n + i ≡ n + suc i = omega arith in p)

pub last_is_noted : (w : WhichFolder) (cs : List CallMeaning) (i : ℕ) → SummarisedBy w cs i → summarised_at w cs ≡ Some i
last_is_noted w cs i s = last_from w 0 None cs i s ∙ ap {B = Option ℕ} Some (let p : 0 + i ≡ i = omega arith in p)

-- noted before these calls, none of which touched the folder, or by one of them
abbrev Source : WhichFolder → ℕ → Option ℕ → List CallMeaning → ℕ → Type 0
Source w n o cs i = ((o ≡ Some i) × Quiet w cs) ⊎ ((j : ℕ) × (i ≡ n + j) × SummarisedBy w cs j)

-- what a call noted
by_call : (w : WhichFolder) (n : ℕ) (c : CallMeaning) (o : Option ℕ) (i : ℕ) → noted w n c o ≡ Some i → ((o ≡ Some i) × (renews w c ≡ false)) ⊎ ((i ≡ n) × (c ≡ summarise w))
by_call w n (exchange v K) o i e = by_same (same w v) refl
  where
    by_same : (b : Bool) → same w v ≡ b → ((o ≡ Some i) × (same w v ≡ false)) ⊎ ((i ≡ n) × (exchange v K ≡ summarise w))
    by_same true p = absurd (let q : None ≡ Some i = ap (λ b. cond b None o) (sym p) ∙ e in cc)
    by_same false p = inl (ap (λ b. cond b None o) (sym p) ∙ e, p)
by_call w n (summarise v) o i e = by_same (same w v) refl
  where
    by_same : (b : Bool) → same w v ≡ b → ((o ≡ Some i) × (same w v ≡ false)) ⊎ ((i ≡ n) × (summarise v ≡ summarise w))
    by_same true p =
        let q : Some n ≡ Some i = ap (λ b. cond b (Some n) o) (sym p) ∙ e in
        let m : i ≡ n = cc in
        inr (m, ap summarise (same_which v w p))
    by_same false p = inl (ap (λ b. cond b (Some n) o) (sym p) ∙ e, p)
by_call w n (entry v m) o i e = inl (e, refl)
by_call w n (ask q list) o i e = inl (e, refl)
by_call w n (replay q ns) o i e = inl (e, refl)

one_earlier : (w : WhichFolder) (n : ℕ) (o : Option ℕ) (c : CallMeaning) (cs : List CallMeaning) (i : ℕ) → Source w (suc n) (noted w n c o) cs i → Source w n o (c ∷ cs) i
one_earlier w n o c cs i (inl (e, q)) =
    ⊎_elim (λ p. inl (p.0, quiet_both p.1)) (λ p. inr (0, (let m = p.0 in let z : i ≡ n + 0 = omega arith in z), begins p.1)) (by_call w n c o i e)
  where
    quiet_both : renews w c ≡ false → Quiet w (c ∷ cs)
    quiet_both r zero d h = subst (λ x. renews w x ≡ false) (let s : c ≡ d = cc in s) r
    quiet_both r (suc j) d h = q j d h

    later : (j : ℕ) (d : CallMeaning) → 0 < j → slice_get (c ∷ cs) j ≡ Some d → renews w d ≡ false
    later zero d h f = absurd (omega arith)
    later (suc j) d h f = q j d f

    begins : c ≡ summarise w → SummarisedBy w (c ∷ cs) 0
    begins s = record { call = ap {B = Option CallMeaning} Some s; last = later }
one_earlier w n o c cs i (inr (j, e, s)) = inr (suc j, (let z : i ≡ n + suc j = omega arith in z), record { call = s.call; last = later })
  where
    later : (k : ℕ) (d : CallMeaning) → suc j < k → slice_get (c ∷ cs) k ≡ Some d → renews w d ≡ false
    later zero d h f = absurd (omega arith)
    later (suc k) d h f = s.last k d (omega arith) f

source : (w : WhichFolder) (n : ℕ) (o : Option ℕ) (cs : List CallMeaning) (i : ℕ) → summarised_from w n o cs ≡ Some i → Source w n o cs i
source w n o [] i e = inl (e, λ j c h. absurd cc)
source w n o (c ∷ cs) i e = one_earlier w n o c cs i (source w (suc n) (noted w n c o) cs i e)

pub noted_is_last : (w : WhichFolder) (cs : List CallMeaning) (i : ℕ) → summarised_at w cs ≡ Some i → SummarisedBy w cs i
noted_is_last w cs i e =
    ⊎_elim (λ p. absurd (let q = p.0 in cc)) (λ p. let q = p.1 in subst (SummarisedBy w cs) (let z : p.0 ≡ i = omega arith in z) p.2) (source w 0 None cs i e)
