-- A packet, a seat and a desk may go to another thread.
use denote.Param.Send.{IsSend, sendable}
use Rattle.std.proofs.Crossing.{crosses}
use Rattle.rtrb.proofs.end.End.TheSendSync as ends
use Rattle.front_desk.specs.contracts.packet.Packet as Packet
use Rattle.front_desk.specs.contracts.seat.Seat as Seat
use Rattle.front_desk.specs.contracts.desk.Desk as Desk

pub packet_send : IsSend Packet.the_row
packet_send = search (sendable, crosses) depth 100 fits 20000

pub seat_send : IsSend Seat.the_row
seat_send = search (sendable, crosses, ends.the_send, packet_send) depth 100 fits 20000

pub desk_send : IsSend Desk.the_row
desk_send = search (sendable, crosses, ends.the_send, packet_send) depth 100 fits 20000
