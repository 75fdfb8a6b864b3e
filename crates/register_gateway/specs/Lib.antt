pub mod Gateways
