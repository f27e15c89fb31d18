-- Requests and replies are one to one with their lists of frames.
use Rattle.std.specs.Prelude.{ℕ, ◌≡◌, ◌↔◌, IsTrue, List, Some}
use Rattle.mj_base.specs.ServiceName.{is_service_name}
use Rattle.mj_client_cmd.specs.ClientGrammar.{IsClientRequest, IsClientReply, IsLed, IsReplyKind}
use Rattle.mj_client_cmd.specs.ClientReading.{client_of, reply_of}
use Rattle.mj_client_cmd.specs.ClientWriting.{request_frames, reply_frames}
use Rattle.mj_client_cmd.specs.declared.command.ClientCmd.{ClientCmd}
use Rattle.mj_client_cmd.specs.declared.command.ClientReply.{ClientReply}

abbrev pub OneListOfRequest : Type 0
OneListOfRequest = (cmd : ClientCmd) (message other : List (List ℕ)) → IsClientRequest cmd message → IsClientRequest cmd other → message ≡ other

abbrev pub OneRequestOfList : Type 0
OneRequestOfList = (cmd other : ClientCmd) (message : List (List ℕ)) → IsClientRequest cmd message → IsClientRequest other message → cmd ≡ other

abbrev pub RequestIsRead : Type 0
RequestIsRead = (cmd : ClientCmd) (message : List (List ℕ)) → (client_of message ≡ Some cmd) ↔ IsClientRequest cmd message

abbrev pub RequestIsWritten : Type 0
RequestIsWritten = (cmd : ClientCmd) → IsLed cmd.version cmd.lead → IsTrue (is_service_name cmd.service) → IsClientRequest cmd (request_frames cmd)

abbrev pub OneListOfReply : Type 0
OneListOfReply = (reply : ClientReply) (message other : List (List ℕ)) → IsClientReply reply message → IsClientReply reply other → message ≡ other

abbrev pub OneReplyOfList : Type 0
OneReplyOfList = (reply other : ClientReply) (message : List (List ℕ)) → IsClientReply reply message → IsClientReply other message → reply ≡ other

abbrev pub ReplyIsRead : Type 0
ReplyIsRead = (reply : ClientReply) (message : List (List ℕ)) → (reply_of message ≡ Some reply) ↔ IsClientReply reply message

abbrev pub ReplyIsWritten : Type 0
ReplyIsWritten = (reply : ClientReply) → IsReplyKind reply.version reply.lead reply.last → IsTrue (is_service_name reply.service) → IsClientReply reply (reply_frames reply)
