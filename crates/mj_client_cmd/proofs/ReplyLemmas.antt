-- Replies: what is read is related, what is related is read, and what is written is related.
use Rattle.std.proofs.Common.{◌≡◌, ℕ, Bool, true, false, cond, IsTrue, List, [], ◌∷◌, Option, Some, None, option_map, refl, sym, ap, subst, ◌∙◌}
use Rattle.std.specs.Str.{bytes_eq}
use Rattle.mj_base.specs.ServiceName.{is_service_name}
use Rattle.mj_base.specs.declared.version.Version.{Version}
use Rattle.mj_base.specs.declared.version.Version.TheVariants.{One, Two}
use Rattle.mj_client_cmd.specs.declared.command.ClientReply.{ClientReply}
use Rattle.mj_client_cmd.specs.ClientGrammar.{IsReplyRow, IsClientReply, IsReplyKind}
use Rattle.mj_client_cmd.specs.ClientReading.{named, last_of, reply_rest, reply, reply_in, reply_begun, reply_of}
use Rattle.mj_client_cmd.specs.ClientWriting.{reply_code, reply_frames}
use Rattle.mj_client_cmd.specs.Laws.{OneListOfReply, OneReplyOfList, ReplyIsRead, ReplyIsWritten}
use Rattle.mj_client_cmd.proofs.ReadingLemmas.{named_stands, name_is_read}
use Rattle.mj_opening.specs.Opening.{Begun, IsBegun, opening_of}
use Rattle.mj_opening.specs.declared.party.Party.TheVariants.{Clients}
use Rattle.mj_opening.proofs.OpeningLemmas.{same, opening_stands}

last_by : (code : List ℕ) (last two three : Bool) → bytes_eq code (2 ∷ []) ≡ two → bytes_eq code (3 ∷ []) ≡ three
    → cond two (Some false) (cond three (Some true) None) ≡ Some last → code ≡ reply_code last
last_by code false true three is_two is_three e = same _ _ is_two
last_by code true true three is_two is_three e = cc
last_by code false false true is_two is_three e = cc
last_by code true false true is_two is_three e = same _ _ is_three
last_by code last false false is_two is_three e = cc

code_by : (code : List ℕ) (rest : List (List ℕ)) (kind : Bool × List (List ℕ)) (o : Option Bool) → last_of code ≡ o
    → option_map (λ last. let k : Bool × List (List ℕ) = (last, rest) in k) o ≡ Some kind → code ∷ rest ≡ reply_code kind.0 ∷ kind.1
code_by code rest kind None is e = cc
code_by code rest kind (Some last) is e =
    let pair : Bool × List (List ℕ) = (last, rest) in
    let q : pair ≡ kind = cc in
    subst (λ (k : Bool × List (List ℕ)). code ∷ rest ≡ reply_code k.0 ∷ k.1) q (ap (λ (x : List ℕ). x ∷ rest) (last_by code last _ _ refl refl is))

code_stands : (rest : List (List ℕ)) (kind : Bool × List (List ℕ)) → reply_rest Two rest ≡ Some kind → rest ≡ reply_code kind.0 ∷ kind.1
code_stands [] kind e = cc
code_stands (code ∷ rest) kind e = code_by code rest kind (last_of code) refl e

one_kind : (rest : List (List ℕ)) (kind : Bool × List (List ℕ)) → reply_rest One rest ≡ Some kind → (kind.0 ≡ true) × (rest ≡ kind.1)
one_kind rest kind e =
    let pair : Bool × List (List ℕ) = (true, rest) in
    let q : pair ≡ kind = cc in
    subst (λ (k : Bool × List (List ℕ)). (k.0 ≡ true) × (rest ≡ k.1)) q (refl, refl)

row_by_code : (lead last : Bool) (rest behind : List (List ℕ)) (service : List ℕ) (body m : List (List ℕ))
    → IsBegun Clients Two lead rest m → rest ≡ reply_code last ∷ behind → behind ≡ service ∷ body → IsReplyRow Two lead last service body m
row_by_code true true rest behind service body m b r n = cc
row_by_code true false rest behind service body m b r n = cc
row_by_code false true rest behind service body m b r n = cc
row_by_code false false rest behind service body m b r n = cc

reply_row : (v : Version) (lead : Bool) (rest : List (List ℕ)) (kind : Bool × List (List ℕ)) (service : List ℕ) (body m : List (List ℕ))
    → IsBegun Clients v lead rest m → reply_rest v rest ≡ Some kind → kind.1 ≡ service ∷ body → IsReplyRow v lead kind.0 service body m
reply_row One true rest kind service body m b r n =
    let s = one_kind rest kind r in
    subst (λ (last : Bool). IsReplyRow One true last service body m) (sym s.0) (let e = s.1 in cc)
reply_row One false rest kind service body m b r n = absurd b
reply_row Two lead rest kind service body m b r n = row_by_code lead kind.0 rest kind.1 service body m b (code_stands rest kind r) n

named_reply : (b : Begun) (kind : Bool × List (List ℕ)) (m : List (List ℕ)) (r : ClientReply) (o : Option (List ℕ × List (List ℕ)))
    → IsBegun Clients b.version b.lead b.rest m → reply_rest b.version b.rest ≡ Some kind → named kind.1 ≡ o
    → option_map (reply b.version b.lead kind.0) o ≡ Some r → IsClientReply r m
named_reply b kind m r None at k is e = cc
named_reply b kind m r (Some n) at k is e =
    let q : reply b.version b.lead kind.0 n ≡ r = cc in
    let s = named_stands kind.1 n is in
    subst (λ (c : ClientReply). IsClientReply c m) q (record { named = s.0; row = reply_row b.version b.lead b.rest kind n.0 n.1 m at k s.1 })

coded_reply : (b : Begun) (m : List (List ℕ)) (r : ClientReply) (o : Option (Bool × List (List ℕ)))
    → IsBegun Clients b.version b.lead b.rest m → reply_rest b.version b.rest ≡ o → reply_in b.version b.lead o ≡ Some r → IsClientReply r m
coded_reply b m r None at is e = cc
coded_reply b m r (Some kind) at is e = named_reply b kind m r (named kind.1) at is refl e

begun_reply : (m : List (List ℕ)) (r : ClientReply) (o : Option Begun) → opening_of Clients m ≡ o → reply_begun o ≡ Some r → IsClientReply r m
begun_reply m r None is e = cc
begun_reply m r (Some b) is e = coded_reply b m r (reply_rest b.version b.rest) (opening_stands Clients m b is) refl e

-- what is read is related
pub reply_stands : (m : List (List ℕ)) (r : ClientReply) → reply_of m ≡ Some r → IsClientReply r m
reply_stands m r e = begun_reply m r (opening_of Clients m) refl e

row_is_read : (v : Version) (lead last : Bool) (service : List ℕ) (body m : List (List ℕ)) → IsTrue (is_service_name service) → IsReplyRow v lead last service body m
    → reply_of m ≡ Some (record { version = v; lead = lead; last = last; service = service; body = body })
row_is_read One true true service body m good row = ap reply_of row ∙ ap (option_map (reply One true true)) (name_is_read service body good)
row_is_read One true false service body m good row = absurd row
row_is_read One false last service body m good row = absurd row
row_is_read Two true true service body m good row = ap reply_of row ∙ ap (option_map (reply Two true true)) (name_is_read service body good)
row_is_read Two true false service body m good row = ap reply_of row ∙ ap (option_map (reply Two true false)) (name_is_read service body good)
row_is_read Two false true service body m good row = ap reply_of row ∙ ap (option_map (reply Two false true)) (name_is_read service body good)
row_is_read Two false false service body m good row = ap reply_of row ∙ ap (option_map (reply Two false false)) (name_is_read service body good)

-- what is related is read
pub reply_is_read : (m : List (List ℕ)) (r : ClientReply) → IsClientReply r m → reply_of m ≡ Some r
reply_is_read m r is = row_is_read r.version r.lead r.last r.service r.body m is.named is.row

pub read_law : ReplyIsRead
read_law r m = (reply_stands m r, reply_is_read m r)

written_row : (v : Version) (lead last : Bool) (service : List ℕ) (body : List (List ℕ)) → IsReplyKind v lead last
    → IsReplyRow v lead last service body (reply_frames (record { version = v; lead = lead; last = last; service = service; body = body }))
written_row One true true service body kind = refl
written_row One true false service body kind = let e = kind.1 in cc
written_row One false last service body kind = let e = kind.0 in cc
written_row Two true true service body kind = refl
written_row Two true false service body kind = refl
written_row Two false true service body kind = refl
written_row Two false false service body kind = refl

-- what is written is related
pub written_reply : ReplyIsWritten
written_reply r kind good = record { named = good; row = written_row r.version r.lead r.last r.service r.body kind }

-- ---- one to one

row_has_one_list : (v : Version) (lead last : Bool) (service : List ℕ) (body m n : List (List ℕ)) → IsReplyRow v lead last service body m → IsReplyRow v lead last service body n → m ≡ n
row_has_one_list One true true service body m n a b = a ∙ sym b
row_has_one_list One true false service body m n a b = absurd a
row_has_one_list One false last service body m n a b = absurd a
row_has_one_list Two true true service body m n a b = a ∙ sym b
row_has_one_list Two true false service body m n a b = a ∙ sym b
row_has_one_list Two false true service body m n a b = a ∙ sym b
row_has_one_list Two false false service body m n a b = a ∙ sym b

pub one_list : OneListOfReply
one_list r m n a b = row_has_one_list r.version r.lead r.last r.service r.body m n a.row b.row

pub one_reply : OneReplyOfList
one_reply r other m a b = let p = reply_is_read m r a in let q = reply_is_read m other b in cc
