-- Requests: what is read is related, what is related is read, and what is written is related.
use Rattle.std.proofs.Common.{◌≡◌, ℕ, Bool, true, false, cond, IsTrue, List, [], ◌∷◌, Option, Some, None, option_map, refl, sym, ap, subst, ◌∙◌}
use Rattle.std.specs.Str.{bytes_eq}
use Rattle.mj_base.specs.ServiceName.{is_service_name}
use Rattle.mj_base.specs.declared.version.Version.{Version}
use Rattle.mj_base.specs.declared.version.Version.TheVariants.{One, Two}
use Rattle.mj_client_cmd.specs.declared.command.ClientCmd.{ClientCmd}
use Rattle.mj_client_cmd.specs.ClientGrammar.{IsRequestRow, IsClientRequest, IsLed}
use Rattle.mj_client_cmd.specs.ClientReading.{named, request_rest, request, request_in, request_begun, client_of}
use Rattle.mj_client_cmd.specs.ClientWriting.{request_frames}
use Rattle.mj_client_cmd.specs.Laws.{OneListOfRequest, OneRequestOfList, RequestIsRead, RequestIsWritten}
use Rattle.mj_client_cmd.proofs.ReadingLemmas.{named_stands, name_is_read}
use Rattle.mj_opening.specs.Opening.{Begun, IsBegun, opening_of}
use Rattle.mj_opening.specs.declared.party.Party.TheVariants.{Clients}
use Rattle.mj_opening.proofs.OpeningLemmas.{same, opening_stands}

code_by : (code : List ℕ) (rest behind : List (List ℕ)) (good : Bool) → bytes_eq code (1 ∷ []) ≡ good
    → cond good (Some rest) None ≡ Some behind → code ∷ rest ≡ (1 ∷ []) ∷ behind
code_by code rest behind true is e = let c : code ≡ 1 ∷ [] = same _ _ is in cc
code_by code rest behind false is e = cc

code_stands : (rest behind : List (List ℕ)) → request_rest Two rest ≡ Some behind → rest ≡ (1 ∷ []) ∷ behind
code_stands [] behind e = cc
code_stands (code ∷ rest) behind e = code_by code rest behind _ refl e

request_row : (v : Version) (lead : Bool) (rest behind : List (List ℕ)) (service : List ℕ) (body m : List (List ℕ))
    → IsBegun Clients v lead rest m → request_rest v rest ≡ Some behind → behind ≡ service ∷ body → IsRequestRow v lead service body m
request_row One true rest behind service body m b r n = cc
request_row One false rest behind service body m b r n = absurd b
request_row Two true rest behind service body m b r n = let s = code_stands rest behind r in cc
request_row Two false rest behind service body m b r n = let s = code_stands rest behind r in cc

named_request : (b : Begun) (behind m : List (List ℕ)) (cmd : ClientCmd) (o : Option (List ℕ × List (List ℕ)))
    → IsBegun Clients b.version b.lead b.rest m → request_rest b.version b.rest ≡ Some behind → named behind ≡ o
    → option_map (request b.version b.lead) o ≡ Some cmd → IsClientRequest cmd m
named_request b behind m cmd None at r is e = cc
named_request b behind m cmd (Some n) at r is e =
    let q : request b.version b.lead n ≡ cmd = cc in
    let s = named_stands behind n is in
    subst (λ (c : ClientCmd). IsClientRequest c m) q (record { named = s.0; row = request_row b.version b.lead b.rest behind n.0 n.1 m at r s.1 })

coded_request : (b : Begun) (m : List (List ℕ)) (cmd : ClientCmd) (o : Option (List (List ℕ)))
    → IsBegun Clients b.version b.lead b.rest m → request_rest b.version b.rest ≡ o → request_in b.version b.lead o ≡ Some cmd → IsClientRequest cmd m
coded_request b m cmd None at is e = cc
coded_request b m cmd (Some behind) at is e = named_request b behind m cmd (named behind) at is refl e

begun_request : (m : List (List ℕ)) (cmd : ClientCmd) (o : Option Begun) → opening_of Clients m ≡ o → request_begun o ≡ Some cmd → IsClientRequest cmd m
begun_request m cmd None is e = cc
begun_request m cmd (Some b) is e = coded_request b m cmd (request_rest b.version b.rest) (opening_stands Clients m b is) refl e

-- what is read is related
pub request_stands : (m : List (List ℕ)) (cmd : ClientCmd) → client_of m ≡ Some cmd → IsClientRequest cmd m
request_stands m cmd e = begun_request m cmd (opening_of Clients m) refl e

row_is_read : (v : Version) (lead : Bool) (service : List ℕ) (body m : List (List ℕ)) → IsTrue (is_service_name service) → IsRequestRow v lead service body m
    → client_of m ≡ Some (record { version = v; lead = lead; service = service; body = body })
row_is_read One true service body m good row =
    ap client_of row ∙ ap (option_map (request One true)) (name_is_read service body good)
row_is_read One false service body m good row = absurd row
row_is_read Two true service body m good row =
    ap client_of row ∙ ap (option_map (request Two true)) (name_is_read service body good)
row_is_read Two false service body m good row =
    ap client_of row ∙ ap (option_map (request Two false)) (name_is_read service body good)

-- what is related is read
pub request_is_read : (m : List (List ℕ)) (cmd : ClientCmd) → IsClientRequest cmd m → client_of m ≡ Some cmd
request_is_read m cmd is = row_is_read cmd.version cmd.lead cmd.service cmd.body m is.named is.row

pub read_law : RequestIsRead
read_law cmd m = (request_stands m cmd, request_is_read m cmd)

written_row : (v : Version) (lead : Bool) (service : List ℕ) (body : List (List ℕ)) → IsLed v lead
    → IsRequestRow v lead service body (request_frames (record { version = v; lead = lead; service = service; body = body }))
written_row One true service body led = refl
written_row One false service body led = cc
written_row Two true service body led = refl
written_row Two false service body led = refl

-- what is written is related
pub written_request : RequestIsWritten
written_request cmd led good = record { named = good; row = written_row cmd.version cmd.lead cmd.service cmd.body led }

-- ---- one to one

row_has_one_list : (v : Version) (lead : Bool) (service : List ℕ) (body m n : List (List ℕ)) → IsRequestRow v lead service body m → IsRequestRow v lead service body n → m ≡ n
row_has_one_list One true service body m n a b = a ∙ sym b
row_has_one_list One false service body m n a b = absurd a
row_has_one_list Two true service body m n a b = a ∙ sym b
row_has_one_list Two false service body m n a b = a ∙ sym b

pub one_list : OneListOfRequest
one_list cmd m n a b = row_has_one_list cmd.version cmd.lead cmd.service cmd.body m n a.row b.row

pub one_request : OneRequestOfList
one_request cmd other m a b = let p = request_is_read m cmd a in let q = request_is_read m other b in cc
