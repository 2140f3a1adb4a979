-- How what is seen of an end is coded: the values of models are data.
use Rattle.std.specs.Prelude.{◌≡◌, ℕ, Bool, true, false, List, refl}
use Rattle.std.specs.Coded.{Coded, code_by, coded×, coded_ℕ, coded_bool, coded_list}
use Rattle.lpt_ledger.specs.Marks.{Marks, coded_marks}
use Rattle.lpt_reception.specs.Codes.{coded_mode}
use Rattle.lpt_table.specs.Tables.{Entries, coded_entries}
use Rattle.lpt_part.specs.declared.mode.Mode.{Mode}
use Rattle.lpt_events.specs.declared.side.Side.{Side}
use Rattle.lpt_events.specs.declared.side.Side.TheVariants.{Ground, Craft}
use Rattle.lpt_events.specs.declared.config.Config.{Config}
use Rattle.lpt_jobs.specs.Codes.{coded_jobs}
use Rattle.lpt_jobs.specs.Jobs.{Jobs}
use Rattle.lpt_node.specs.Nodes.{Messages, Sending, Receiving, NodeData, NodeView, is_craft}
use Rattle.lpt_node.specs.NodeInside.{coded_messages}
use Rattle.lpt_node.specs.ParsedViews.{ParsedView}

-- the side that is, or isn't, the spacecraft
abbrev pub side_of : Bool → Side
side_of false = Ground
side_of true = Craft

-- the code of a side
abbrev pub coded_side : Coded Side
coded_side =
    code_by Bool coded_bool is_craft side_of (λ s. elim s as (λ s. side_of (is_craft s) ≡ s) [ Ground ↦ refl | Craft ↦ refl ])

-- the code of a configuration
abbrev pub coded_config : Coded Config
coded_config =
    code_by (ℕ × (ℕ × (ℕ × (ℕ × (ℕ × (ℕ × (ℕ × Mode)))))))
    (coded× coded_ℕ (coded× coded_ℕ (coded× coded_ℕ (coded× coded_ℕ (coded× coded_ℕ
    (coded× coded_ℕ (coded× coded_ℕ coded_mode)))))))
    (λ c. (c.apid, (c.source, (c.part_size, (c.timeout, (c.receptions, (c.outgoing, (c.clock, c.mode))))))))
    (λ q. record {
      apid = q.0;
      source = q.1.0;
      part_size = q.1.1.0;
      timeout = q.1.1.1.0;
      receptions = q.1.1.1.1.0;
      outgoing = q.1.1.1.1.1.0;
      clock = q.1.1.1.1.1.1.0;
      mode = q.1.1.1.1.1.1.1;
    })
    (λ _. refl)

-- the code of what an end keeps to send
abbrev pub coded_sending : Coded Sending
coded_sending =
    code_by (Marks × (Messages × (ℕ × List ℕ)))
    (coded× coded_marks (coded× coded_messages (coded× coded_ℕ (coded_list coded_ℕ))))
    (λ s. (s.ledger, (s.messages, (s.count, s.types))))
    (λ q. record { ledger = q.0; messages = q.1.0; count = q.1.1.0; types = q.1.1.1 })
    (λ _. refl)

-- the code of what an end keeps to receive
abbrev pub coded_receiving : Coded Receiving
coded_receiving =
    code_by (Marks × (Entries × (ℕ × ℕ)))
    (coded× coded_marks (coded× coded_entries (coded× coded_ℕ coded_ℕ)))
    (λ r. (r.ledger, (r.entries, (r.limit, r.timeout))))
    (λ q. record { ledger = q.0; entries = q.1.0; limit = q.1.1.0; timeout = q.1.1.1 })
    (λ _. refl)

-- the code of what changes at one end
abbrev pub coded_data : Coded NodeData
coded_data =
    code_by (Sending × (Receiving × (ℕ × (ℕ × (ℕ × Jobs)))))
    (coded× coded_sending (coded× coded_receiving
    (coded× coded_ℕ (coded× coded_ℕ (coded× coded_ℕ coded_jobs)))))
    (λ d. (d.sending, (d.receiving, (d.outgoing, (d.clock, (d.boot, d.jobs))))))
    (λ q. record {
      sending = q.0;
      receiving = q.1.0;
      outgoing = q.1.1.0;
      clock = q.1.1.1.0;
      boot = q.1.1.1.1.0;
      jobs = q.1.1.1.1.1;
    })
    (λ _. refl)

-- the code of one end
abbrev pub coded_node : Coded NodeView
coded_node =
    code_by (Side × (Config × NodeData)) (coded× coded_side (coded× coded_config coded_data))
    (λ v. (v.side, (v.config, v.at))) (λ q. record { side = q.0; config = q.1.0; at = q.1.1 }) (λ _. refl)

-- the code of what a packet was read from
abbrev pub coded_parsed : Coded ParsedView
coded_parsed =
    code_by (List ℕ × (Side × (ℕ × ℕ))) (coded× (coded_list coded_ℕ) (coded× coded_side (coded× coded_ℕ coded_ℕ)))
    (λ o. (o.octets, (o.side, (o.apid, o.p))))
    (λ q. record { octets = q.0; side = q.1.0; apid = q.1.1.0; p = q.1.1.1 })
    (λ _. refl)
