pub mod BisonPlaces
