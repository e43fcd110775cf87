-- What a body says is what the grammar of its fields says of it, and nothing else.
use Rattle.std.proofs.Common.{◌≡◌, ℕ, Option, None, Result, Ok, List, [], ◌∷◌, ◌++◌, length, map, refl, sym, subst, ◌∙◌, inl, inr, arith}
use Rattle.std.specs.Prelude.{◌↔◌}
use Rattle.std.proofs.lemmas.Bool.{cases_Bool, cond-true, cond-false}
use Rattle.std.proofs.lemmas.List.{append-nil}
use Rattle.audit_base.specs.declared.faults.Reason.{Reason}
use Rattle.fix_fields.specs.Grammar.{TagValue, AreFields, NoField, begins_with_type, bytes_of, last_of}
use Rattle.fix_messages.specs.declared.meanings.MessageFault.{MessageFault}
use Rattle.fix_messages.specs.Bodies.{BodySays, BodiesSay, body_says, says_of}
use Rattle.fix_messages.specs.BodyFields.{split_of}
use Rattle.fix_messages.proofs.BodyLemmas.{body-split, fields-say, unreadable-says, untyped-says}

module _ {R : Type 0} (meaning : List TagValue → Result (Option R) MessageFault) (body : List ℕ) where
  says-once : (said : Result (Option R) Reason) → BodySays meaning body said → said ≡ body_says meaning body
  says-once said (inl is) = is.means ∙ sym (fields-say meaning body is.fields is.read)
  says-once said (inr (inl is)) = is.means ∙ sym (unreadable-says meaning body is.at is.unreadable)
  says-once said (inr (inr is)) = is.means ∙ sym (untyped-says meaning body is.untyped)

  -- fields from the front, and what is left after them
  front-says : (fields : List TagValue) (left : List ℕ) → body ≡ bytes_of fields ++ left → AreFields None fields → NoField (last_of None fields) left
      → BodySays meaning body (says_of meaning fields left)
  front-says fields [] whole forms none =
      let bytes : body ≡ bytes_of fields = whole ∙ append-nil (bytes_of fields) in
      elim (cases_Bool (begins_with_type fields)) [
        | inl typed ↦ inl (record {
          fields = fields;
          read = record { bytes = bytes; forms = forms; typed = typed };
          means = cond-true (begins_with_type fields) _ _ typed;
        })
        | inr untyped ↦ inr (inr (record {
          untyped = record { fields = fields; bytes = bytes; forms = forms; untyped = untyped };
          means = cond-false (begins_with_type fields) _ _ untyped;
        }))
      ]
  front-says fields (byte ∷ left) whole forms none = inr (inl (record {
    at = length (bytes_of fields);
    unreadable = record { front = fields; left = byte ∷ left; bytes = whole; place = refl; forms = forms; nonempty = omega arith; no_field = none };
    means = refl;
  }))

  says-it : BodySays meaning body (body_says meaning body)
  unfolding body_says
  says-it = let s = body-split body in front-says (split_of body).fields (split_of body).left s.whole s.forms s.none

  pub body-says : (said : Result (Option R) Reason) → BodySays meaning body said ↔ (said ≡ body_says meaning body)
  body-says said = (says-once said, λ same. subst (BodySays meaning body) (sym same) says-it)

  -- the same with the answer on the other side
  pub says-of : (said : Result (Option R) Reason) → BodySays meaning body said → body_says meaning body ≡ said
  says-of said is = sym (says-once said is)

  pub of-says : (said : Result (Option R) Reason) → body_says meaning body ≡ said → BodySays meaning body said
  of-says said same = subst (BodySays meaning body) same says-it

module _ {R : Type 0} (meaning : List TagValue → Result (Option R) MessageFault) where
  pub bodies-say : (bodies : List (List ℕ)) (meanings : List (Option R)) → BodiesSay meaning bodies meanings → map (body_says meaning) bodies ≡ map Ok meanings
  bodies-say [] [] say = refl
  bodies-say [] (said ∷ others) say = absurd say
  bodies-say (body ∷ bodies) [] say = absurd say
  bodies-say (body ∷ bodies) (said ∷ others) say =
      let this = says-of meaning body (Ok said) say.0 in
      let later = bodies-say bodies others say.1 in cc

  pub say-bodies : (bodies : List (List ℕ)) (meanings : List (Option R)) → map (body_says meaning) bodies ≡ map Ok meanings → BodiesSay meaning bodies meanings
  say-bodies [] [] same = tt
  say-bodies [] (said ∷ others) same = absurd (cc same)
  say-bodies (body ∷ bodies) [] same = absurd (cc same)
  say-bodies (body ∷ bodies) (said ∷ others) same =
      let this : body_says meaning body ≡ Ok said = cc in
      let later : map (body_says meaning) bodies ≡ map Ok others = cc in
      (of-says meaning body (Ok said) this, say-bodies bodies others later)
